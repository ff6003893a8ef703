pub mod Below
pub mod Walks
pub mod Laws
