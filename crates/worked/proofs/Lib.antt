pub mod Certificates
pub mod OneHint
pub mod Table
