pub mod Changes
pub mod Held
