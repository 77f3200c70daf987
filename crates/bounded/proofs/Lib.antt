pub mod Every
pub mod First
pub mod Cases
