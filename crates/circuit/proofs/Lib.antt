pub mod HalfLaws
pub mod LayoutLaws
pub mod Circuits
pub mod TurnLaws
