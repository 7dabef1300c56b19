pub mod Field
pub mod Sbox
pub mod SboxRule
pub mod Halves
