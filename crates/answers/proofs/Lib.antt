pub mod AnswerLaws
pub mod TransferLaws
