pub mod Finding
pub mod Tests
pub mod Lines
pub mod Places
pub mod Claims
pub mod Road
