pub mod BitLaws
pub mod MoveLaws
pub mod LaneLaws
pub mod ExchangeLaws
pub mod WordLaws
pub mod PairMoves
