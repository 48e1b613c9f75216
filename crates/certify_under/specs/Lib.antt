pub mod Threads
pub mod Vacant
pub mod Under
