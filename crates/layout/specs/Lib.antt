pub mod Fields
pub mod Segments
pub mod Rule
pub mod Opening
pub mod Polynomial
pub mod Queue
