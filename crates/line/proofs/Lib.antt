pub mod LineLaws
pub mod PartyLaws
pub mod ClearLaws
