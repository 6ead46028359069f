pub mod Choices
pub mod Segments
pub mod Boundary
pub mod Open
pub mod Record
pub mod Granted
