pub mod MeterLaws
pub mod OwnedLaws
pub mod UnsoundExamples
pub mod SameSecond
pub mod CanonicalLaws
