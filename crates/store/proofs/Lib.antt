pub mod Blank
pub mod HeldLaws
pub mod ShiftLaws
pub mod ClearLaws
pub mod Lengths
pub mod StoreLaws
