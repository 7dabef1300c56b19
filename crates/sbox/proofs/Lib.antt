pub mod FieldLaws
pub mod SboxLaws
pub mod HalvesLaws
