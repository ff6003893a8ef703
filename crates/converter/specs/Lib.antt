pub mod Converter
pub mod ThereAndBack
pub use Rattle.refusal.specs as refusal
pub use Rattle.message.specs.slot_table as slot_table
pub use Rattle.message.specs as message
