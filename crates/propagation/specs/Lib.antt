pub mod Supports
pub mod Lists
pub mod State
pub mod Lowering
