pub mod Listed
pub mod Offer
pub mod Room
pub mod Cut
pub mod Instants
pub mod Disjoint
pub mod Granted
pub mod First
