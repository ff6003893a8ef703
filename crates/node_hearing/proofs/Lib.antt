pub mod Own
pub mod Sound
pub mod Holding
