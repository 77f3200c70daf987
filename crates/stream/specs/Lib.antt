pub mod Stream
pub mod Exchange
pub mod Pass
