pub mod Tests
pub mod Belows
pub mod Counts
pub mod Words
pub mod Ones
pub mod Ranges
