pub mod EnvelopeLaws
pub mod StateLaws
pub mod CallLaws
pub mod Claims
