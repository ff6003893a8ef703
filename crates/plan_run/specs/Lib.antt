pub mod Run
pub mod Inner
pub use Rattle.bench_orders.specs as bench_orders
