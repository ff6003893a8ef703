-- What the proofs of several functions use, and the laws of messages.
pub mod Bytes
pub mod Tests
pub mod Parts
pub mod RoundTrip
pub mod TwoSections
pub mod OtherCount
pub mod Places
pub mod From
pub use Rattle.cable.proofs as cable
