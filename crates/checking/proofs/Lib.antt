pub mod Items
pub mod Failures
pub mod Searches
pub mod Folds
