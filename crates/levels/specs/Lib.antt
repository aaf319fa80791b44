pub mod Sets
pub mod Levels
pub mod Counts
pub mod Tests
pub mod Closed
pub mod Theory
pub mod Size
pub mod Counted
