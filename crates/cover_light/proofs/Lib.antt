-- What the proofs of several functions use, and the theorem.
pub mod Lamps
pub mod Records
pub mod Promises
pub use Rattle.nodeset.proofs as nodeset
pub use Rattle.cable.proofs as cable
pub use Rattle.node_record.proofs.ring_laws as ring_laws
pub use Rattle.node_record.proofs.row_laws as row_laws
pub use Rattle.node.proofs.node_reports as node_reports
pub use Rattle.message.proofs as message
pub use Rattle.node_record.proofs as node_record
pub use Rattle.node.proofs as node
