pub mod Scopes
pub mod Operands
pub mod Turns
