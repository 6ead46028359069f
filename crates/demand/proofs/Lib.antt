pub mod Held
pub mod Keeping
pub mod Demand
pub mod RoomAfter
pub mod SecondAfter
pub mod Strict
pub mod Opened
