pub mod Lower
pub mod Going
pub mod Leaving
pub mod Losing
