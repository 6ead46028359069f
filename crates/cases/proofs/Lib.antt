pub mod Cases11
