pub mod PutLaws
pub mod LoopLaws
pub mod WritesLaws
