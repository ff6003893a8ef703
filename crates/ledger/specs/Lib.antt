pub mod Runs
pub mod Tallies
pub mod Entered
pub mod Reported
pub use Rattle.bench.specs.refusal as refusal
pub use Rattle.nodeset.specs as nodeset
pub use Rattle.bench.specs.slot_table as slot_table
pub use Rattle.bench.specs.cable as cable
pub use Rattle.bench.specs.ring as ring
pub use Rattle.bench.specs.node_reports as node_reports
pub use Rattle.bench.specs.message as message
pub use Rattle.bench.specs.node_record as node_record
pub use Rattle.bench.specs.node_changes as node_changes
pub use Rattle.bench.specs.node_steps as node_steps
pub use Rattle.bench.specs.node_hearing as node_hearing
pub use Rattle.bench.specs.node_sending as node_sending
pub use Rattle.bench.specs.node_slot as node_slot
pub use Rattle.bench.specs.node as node
pub use Rattle.bench.specs as bench
