pub mod Tests
pub mod Sums
pub mod Bits
pub mod Laws
pub mod Counts
pub mod Subsets
