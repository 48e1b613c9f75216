pub mod Cares
