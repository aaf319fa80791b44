pub mod Starts
pub mod Equal
pub mod BlankLaws
pub mod OptionCounts
pub mod GridContents
pub mod GridLaws
pub mod ClearanceLaws
pub mod JointLaws
