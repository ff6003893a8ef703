pub mod Text
pub mod Bytewise
