pub mod Gathered
pub mod Told
pub mod Promise
pub mod Question
pub mod Listing
pub mod Theorem
