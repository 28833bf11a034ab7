pub mod Bools
pub mod Counts
pub mod Lists
pub mod Members
pub mod Numbers
