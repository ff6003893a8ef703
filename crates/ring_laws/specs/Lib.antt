pub mod Back
pub mod Before
pub use Rattle.ring.specs.nodeset as nodeset
pub use Rattle.ring.specs.slot_table as slot_table
pub use Rattle.ring.specs.cable as cable
pub use Rattle.ring.specs as ring
