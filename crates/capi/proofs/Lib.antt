pub mod FrameLaws
pub mod RecordLaws
pub mod RunLaws
pub mod NumberLaws
