pub mod Survey
pub mod Orders
pub use Rattle.ring.specs as ring
pub use Rattle.message.specs as message
pub use Rattle.node_changes.specs as node_changes
pub use Rattle.node_steps.specs as node_steps
pub use Rattle.node_sending.specs as node_sending
pub use Rattle.node_slot.specs as node_slot
pub use Rattle.bench_notes.specs as bench_notes
