pub mod Agreeing
pub mod Marks
pub mod Results
