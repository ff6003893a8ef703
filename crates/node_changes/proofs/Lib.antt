pub mod Sound
pub mod Holding
