pub mod Meanings
pub mod Picks
