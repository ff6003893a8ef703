pub mod Read
pub mod Digests
pub mod Sound
pub mod Holding
