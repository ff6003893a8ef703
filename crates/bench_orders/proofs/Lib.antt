pub mod Numbers
pub use Rattle.node_changes.proofs as node_changes
pub use Rattle.node_sending.proofs as node_sending
pub use Rattle.node_slot.proofs as node_slot
