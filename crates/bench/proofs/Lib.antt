pub mod Choices
pub mod Places
pub mod Counted
pub mod Accepted
pub mod Runs
pub mod SlotKinds
pub mod Computed
pub mod Ledgers
pub mod Standing
pub mod Reports
pub mod Farthest
pub use Rattle.cable.proofs.nodeset as nodeset
pub use Rattle.cable.proofs.slot_table as slot_table
pub use Rattle.cable.proofs as cable
pub use Rattle.node.proofs.ring as ring
pub use Rattle.node.proofs.ring_laws as ring_laws
pub use Rattle.node.proofs.node_reports as node_reports
pub use Rattle.node.proofs.message as message
pub use Rattle.node.proofs.node_record as node_record
pub use Rattle.node.proofs.node_steps as node_steps
pub use Rattle.node.proofs.node_sending as node_sending
pub use Rattle.node.proofs.node_slot as node_slot
pub use Rattle.node.proofs as node
