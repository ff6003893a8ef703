pub mod Sending
pub mod Held
