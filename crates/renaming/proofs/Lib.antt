-- The proof that a run with a slot table is the plain run with the nodes renamed: `Renaming` has `as-renamed : Renamed`.
pub mod Names
pub mod Records
pub mod Tables
pub mod Distances
pub mod Pairs
pub mod Figures
pub mod Renaming
