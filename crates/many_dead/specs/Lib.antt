pub mod Many
pub mod Alone
