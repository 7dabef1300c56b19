pub mod Handed
pub mod Inner
