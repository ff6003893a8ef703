-- What the proofs of several functions use, and laws of the definitions for those who use them (Numbers, Ranges).
pub mod Words
pub mod Numbers
pub mod Capped
pub mod Lists
pub mod Ranges
