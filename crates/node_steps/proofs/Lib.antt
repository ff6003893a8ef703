pub mod Answers
pub mod Cases
pub mod Sound
pub mod Digests
pub mod Holding
pub use Rattle.node_changes.proofs as node_changes
