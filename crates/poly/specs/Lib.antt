pub mod Integral
pub mod Poly
pub mod Search
pub mod Exact
pub mod Granted
