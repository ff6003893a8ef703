pub mod Ring
pub mod Answers
pub mod Places
pub use Rattle.refusal.specs as refusal
pub use Rattle.nodeset.specs as nodeset
pub use Rattle.slot_table.specs as slot_table
pub use Rattle.cable.specs as cable
