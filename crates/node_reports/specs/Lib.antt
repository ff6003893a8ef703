pub mod Reports
pub mod Inner
