pub mod Plans
pub mod Needed
