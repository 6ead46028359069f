pub mod Digits
pub mod Carried
pub mod Bytes
pub mod Numbers
pub mod Horner
pub mod Pairs
pub mod Complement
pub mod Unique
