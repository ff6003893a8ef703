pub mod Light
pub mod Promises
pub use Rattle.refusal.specs as refusal
pub use Rattle.nodeset.specs as nodeset
pub use Rattle.cable.specs.slot_table as slot_table
pub use Rattle.cable.specs as cable
pub use Rattle.node.specs.ring as ring
pub use Rattle.node_record.specs.row as row
pub use Rattle.node.specs.node_reports as node_reports
pub use Rattle.message.specs as message
pub use Rattle.node_record.specs as node_record
pub use Rattle.node.specs.node_changes as node_changes
pub use Rattle.node.specs.node_hearing as node_hearing
pub use Rattle.node.specs.node_sending as node_sending
pub use Rattle.node.specs.node_slot as node_slot
pub use Rattle.node.specs as node
