pub mod Numbers
pub mod Walking
pub mod Places
pub mod InGroups
pub mod Theorems
pub mod Rising
pub mod Counting
pub mod Cases
