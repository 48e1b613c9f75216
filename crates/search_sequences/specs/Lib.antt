pub mod OfProgram
pub mod Numbers
