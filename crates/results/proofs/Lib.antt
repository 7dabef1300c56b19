pub mod Lengths
pub mod ResultLaws
