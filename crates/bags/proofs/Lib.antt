pub mod BagLaws
pub mod Views
