pub mod ByValue
pub use Rattle.bench_calls.specs.ledger as ledger
