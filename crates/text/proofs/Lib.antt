pub mod Written
pub mod Words
pub mod Parts
pub mod Lists
pub mod Complement
pub mod Unique
