pub mod Lists
pub mod Walked
pub use Rattle.ring.proofs as ring
