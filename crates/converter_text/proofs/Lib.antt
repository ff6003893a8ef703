-- What the proofs of several functions use, and the law of pieces (Pieces).
pub mod Hex
pub mod Turned
pub mod Lines
pub mod Pieces
pub mod Returns
