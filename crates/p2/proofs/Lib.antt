pub mod LentLaws
pub mod CallLaws
pub mod Runs
