pub use Rattle.bench_work.specs.ledger as ledger
