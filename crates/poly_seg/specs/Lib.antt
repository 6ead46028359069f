pub mod Choices
pub mod Open
pub mod Record
pub mod DryRun
pub mod Book
pub mod Strict
pub mod List
pub mod Granted
