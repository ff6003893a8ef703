-- The proof of request g: `Dead` has `many-dead : ManyDead`; `Alone` has a run that meets its premises, and that it is false with e or f taken back.
pub mod Shrinking
pub mod Lists
pub mod Members
pub mod Dead
pub mod Alone
