pub mod Lines
pub mod Chunks
pub mod Sound
pub mod Lent
pub mod Turns
pub mod Tables
pub mod OnSets
pub mod Pieces
pub mod Computed
pub use Rattle.bench.proofs as bench
pub use Rattle.bench_by_value.proofs.ledger as ledger
