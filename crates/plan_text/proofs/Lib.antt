-- What the proofs of several functions use, and what is written read back (ReadBack).
pub mod Paste
pub mod Digits
pub mod ReadBack
pub mod Bytewise
pub mod Pieces
