pub mod Slot
pub mod Inner
pub mod Held
pub use Rattle.node_hearing.specs as node_hearing
