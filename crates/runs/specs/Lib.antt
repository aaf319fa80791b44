pub mod Answers
pub mod State
pub mod Edits
pub mod Outcome
pub mod Screening
pub mod Runs
pub mod Law
pub mod Hint
