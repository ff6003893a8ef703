pub mod Surveys
pub mod Works
pub mod Moves
pub mod Readings
pub mod Reports
pub mod Outcomes
pub mod Counted
pub mod Kept
pub use Rattle.bench_work.proofs.ledger as ledger
pub use Rattle.bench_walks.proofs as bench_walks
