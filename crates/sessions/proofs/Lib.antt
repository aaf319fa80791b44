pub mod Masks
pub mod SetWords
pub mod BookWords
pub mod EditLaws
pub mod Leads
pub mod Screens
pub mod Performing
