pub mod Loops
pub mod Facts
