mod AllowedLaws
pub mod ServedLaws
