pub mod Verdicts
pub mod Tests
