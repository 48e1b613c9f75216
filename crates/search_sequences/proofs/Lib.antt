pub mod Steps
pub mod Keys
pub mod Machine
pub mod InTurn
pub mod Meaning
pub mod Few
pub mod Quick
pub mod Small
