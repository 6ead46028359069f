pub mod Start
pub mod Earliest
pub mod Rest
