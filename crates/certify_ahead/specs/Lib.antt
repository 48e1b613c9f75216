pub mod Live
pub mod Loadless
