pub mod Words
pub mod View
pub mod Edits
pub mod Hint
pub mod Empty
pub mod Said
pub mod Performed
