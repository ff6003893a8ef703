pub mod Recorded
pub mod Calls
pub mod Returns
pub mod Inner
pub use Rattle.converter.specs as converter
pub use Rattle.plan_line.specs as plan_line
pub use Rattle.plan_text.specs as plan_text
