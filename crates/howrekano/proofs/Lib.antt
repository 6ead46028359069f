pub mod Refusals
pub mod FreeDryRun
pub mod FreeBooking
pub mod PriorityDryRun
pub mod PolynomialDryRun
pub mod PolynomialBooking
pub mod Unique
