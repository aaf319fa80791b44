pub mod Junctions
pub mod Nine
