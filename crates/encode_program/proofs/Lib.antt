pub mod Lengths
pub mod Back
pub mod Sizes
