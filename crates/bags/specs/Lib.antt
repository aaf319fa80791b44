pub mod Bags
pub mod Views
