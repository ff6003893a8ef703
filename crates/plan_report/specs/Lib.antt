pub mod Figures
pub mod Report
pub mod Tallies
pub mod Calls
pub mod Inner
pub use Rattle.plan_program.specs.ledger as ledger
pub use Rattle.plan_program.specs.bench_by_value as bench_by_value
pub use Rattle.plan_program.specs.plan_run as plan_run
pub use Rattle.plan_program.specs as plan_program
