pub mod Lengths
pub mod RowLaws
