pub mod Lists
pub mod Sets
pub mod Parts
pub mod Keeping
