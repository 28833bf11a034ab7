pub mod Coded
pub mod Rows
pub mod Sets
pub mod Copies
