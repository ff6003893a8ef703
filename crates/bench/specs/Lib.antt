pub mod Answers
pub mod Table
pub mod Calls
pub mod Reports
pub mod Pairs
pub mod Outcomes
pub mod Ledger
pub mod Kept
pub mod Held
pub mod Runs
pub mod Plans
pub use Rattle.refusal.specs as refusal
pub use Rattle.cable.specs.nodeset as nodeset
pub use Rattle.cable.specs.slot_table as slot_table
pub use Rattle.cable.specs as cable
pub use Rattle.node.specs.ring as ring
pub use Rattle.node.specs.node_reports as node_reports
pub use Rattle.node.specs.message as message
pub use Rattle.node.specs.node_record as node_record
pub use Rattle.node.specs.node_changes as node_changes
pub use Rattle.node.specs.node_steps as node_steps
pub use Rattle.node.specs.node_hearing as node_hearing
pub use Rattle.node.specs.node_sending as node_sending
pub use Rattle.node.specs.node_slot as node_slot
pub use Rattle.node.specs as node
