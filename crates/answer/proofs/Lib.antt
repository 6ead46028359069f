pub mod Stretches
pub mod Turns
pub mod Stored
pub mod Unique
