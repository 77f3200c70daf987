pub mod Decimal
pub mod Spells
pub mod Written
