pub mod Listed
pub mod Search
pub mod Cut
pub mod Granted
pub mod Fits
