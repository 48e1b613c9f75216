pub mod Lower
pub mod Lost
