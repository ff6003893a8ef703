pub mod Numbers
pub mod Made
pub mod Tallied
pub mod Entered
pub mod AnyLent
pub mod Counts
pub mod Reported
pub use Rattle.nodeset.proofs as nodeset
pub use Rattle.bench.proofs.slot_table as slot_table
pub use Rattle.bench.proofs.cable as cable
pub use Rattle.bench.proofs.ring_laws as ring_laws
pub use Rattle.bench.proofs.node_reports as node_reports
pub use Rattle.bench.proofs.message as message
pub use Rattle.bench.proofs.node_record as node_record
pub use Rattle.bench.proofs.node as node
pub use Rattle.bench.proofs as bench
