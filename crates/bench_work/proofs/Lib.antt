pub mod Puts
pub use Rattle.node_reports.proofs as node_reports
pub use Rattle.ledger.proofs as ledger
