pub mod Scan
pub mod Tested
pub mod Needed
pub mod Inhabited
