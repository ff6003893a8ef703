-- The proof that membership does not depend on the number of jobs: `Same` has `same-membership : SameMembership` and `same-as-made : SameAsMade`, `Answers` has `same-call : SameCall`, and `Messages` has `same-at-node : SameAtNode`.
pub mod Records
pub mod Tables
pub mod Same
pub mod Answers
pub mod Messages
