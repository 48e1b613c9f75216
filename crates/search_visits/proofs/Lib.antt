pub mod InPlace
pub mod Lent
pub mod Loops
pub mod Start
