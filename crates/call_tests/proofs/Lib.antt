pub mod TestLaws
pub mod Road
pub mod Numbers
pub mod Places
pub mod Claims
pub mod Codes
