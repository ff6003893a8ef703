pub mod Sums
pub mod Counting
pub mod Lines
pub mod Told
pub mod Summed
pub mod Plans
pub mod Pieces
pub use Rattle.plan_program.proofs.ledger as ledger
pub use Rattle.plan_program.proofs as plan_program
