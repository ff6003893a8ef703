-- What the proofs of several functions use, and the theorem.
pub mod Any
pub mod ThereAndBack
