pub mod Tally
pub mod Layouts
pub mod Outcomes
pub mod Endings
pub mod Settle
pub mod Same
pub mod WholeRuns
