pub mod Table
pub mod Told
pub mod Few
pub mod Unique
pub mod Lengths
pub mod Opened
pub mod Sorted
