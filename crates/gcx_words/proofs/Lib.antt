pub mod Getters
pub mod Within
mod Rows
pub mod Apart
pub mod Pairing
