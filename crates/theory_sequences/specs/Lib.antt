pub mod Stepping
pub mod Sequences
pub mod Answer
pub mod Scan
pub mod Demand
pub mod Listing
pub mod Lawful
