pub mod Hearing
pub mod Held
