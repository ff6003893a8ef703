pub mod Tables
pub mod Members
pub mod Joining
pub mod Round
pub mod Laws
pub mod Sponsored
pub use Rattle.ring_laws.proofs as ring_laws
