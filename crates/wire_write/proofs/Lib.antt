pub mod WroteLaws
pub mod ByteLaws
pub mod FlatLaws
