pub mod Work
pub use Rattle.node_reports.specs as node_reports
pub use Rattle.ledger.specs as ledger
