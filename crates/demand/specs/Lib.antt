pub mod Calls
pub mod Instants
pub mod Strict
pub mod Opened
