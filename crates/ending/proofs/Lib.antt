pub mod Endings
pub mod Envelopes
