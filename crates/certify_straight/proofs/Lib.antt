pub mod Plain
pub mod Backwards
pub mod Walking
