pub mod Tree
pub mod Parse
pub mod Table
pub mod Planting
