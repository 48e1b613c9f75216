pub mod Lengths
pub mod ThreadAt
pub mod Back
pub mod Sizes
