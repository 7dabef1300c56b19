pub mod BodyLaws
pub mod ClearLaws
