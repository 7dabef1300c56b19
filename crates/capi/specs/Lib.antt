pub mod Refusals
pub mod Lending
pub mod Promises
pub mod Runs
pub mod Numbers
pub mod Version
