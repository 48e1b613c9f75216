pub mod Room
pub mod Long
pub mod Whole
