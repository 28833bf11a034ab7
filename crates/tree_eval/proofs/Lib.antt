pub mod Operands
pub mod Weight
pub mod Writing
