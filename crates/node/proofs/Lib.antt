pub mod Sound
pub mod Sent
pub mod Holding
pub mod Standing
pub use Rattle.ring.proofs as ring
pub use Rattle.node_record.proofs.ring_laws as ring_laws
pub use Rattle.node_reports.proofs as node_reports
pub use Rattle.message.proofs as message
pub use Rattle.node_record.proofs as node_record
pub use Rattle.node_changes.proofs as node_changes
pub use Rattle.node_steps.proofs as node_steps
pub use Rattle.node_sending.proofs as node_sending
pub use Rattle.node_slot.proofs as node_slot
