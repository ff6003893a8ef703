pub mod Program
pub mod Calls
pub mod Tables
pub mod OnSets
pub mod Inner
pub use Rattle.bench.specs as bench
pub use Rattle.bench_by_value.specs.ledger as ledger
pub use Rattle.plan_line.specs as plan_line
pub use Rattle.bench_by_value.specs as bench_by_value
pub use Rattle.plan_run.specs as plan_run
