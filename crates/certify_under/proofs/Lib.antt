pub mod Under
pub mod Alike
pub mod Resting
