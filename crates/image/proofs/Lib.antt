pub mod CodecLaws
pub mod LoopLaws
pub mod LayoutLaws
pub mod TakenLaws
pub mod HoldableLaws
pub mod ImageLaws
pub mod PlaceLaws
pub mod ListLaws
