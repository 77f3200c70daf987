pub mod Lent
pub mod Cases
