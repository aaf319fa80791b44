pub mod Fields
pub mod Texts
pub mod Reading
pub mod Writing
pub mod Law
