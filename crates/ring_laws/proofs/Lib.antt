pub mod Senders
pub mod Speakers
pub mod Walks
pub mod Distances
pub mod Alike
pub mod AsBefore
pub use Rattle.ring.proofs.nodeset as nodeset
pub use Rattle.ring.proofs.slot_table as slot_table
