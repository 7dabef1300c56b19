pub mod Refusals
pub mod Lending
pub mod Promises
