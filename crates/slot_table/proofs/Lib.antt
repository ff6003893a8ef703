pub mod Entries
pub mod Sums
pub mod Places
pub mod Same
pub mod Numbers
pub use Rattle.nodeset.proofs as nodeset
