pub mod Held
pub mod Lists
pub mod Promises
pub mod Canonical
