pub mod Marks
pub mod Sizes
pub mod Transfers
pub mod Canonical
