pub mod Lengths
pub mod MarkLaws
pub mod EntryLaws
pub mod RangeLaws
pub mod SizeLaws
pub mod ClearLaws
pub mod TransferLaws
