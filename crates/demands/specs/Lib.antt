pub mod Examples
pub mod Calls
pub mod Demands
pub mod Backwards
pub mod Surplus
pub mod Explaining
pub mod Catalogue
pub mod Outlines
