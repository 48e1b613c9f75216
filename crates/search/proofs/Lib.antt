pub mod Told
pub mod Found
pub mod Promise
pub mod Theorem
