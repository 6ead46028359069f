pub mod Capacity
pub mod End
pub mod Delay
pub mod Granted
pub mod EndIs
pub mod Blank
