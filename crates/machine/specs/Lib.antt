pub mod Below
pub mod State
pub mod Rules
pub mod WellFormed
pub mod Inner
