pub mod Step
pub mod Order
pub mod Outcome
pub mod Stray
pub mod Reached
pub mod Answers
pub mod Inner
