pub mod Plain
pub mod Glimpses
