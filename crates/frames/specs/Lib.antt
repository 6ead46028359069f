pub mod Opening
pub mod Granted
pub mod Calls
pub mod Step
