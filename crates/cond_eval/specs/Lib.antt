pub mod Bindings
pub mod Asking
pub mod Literals
pub mod Reads
pub mod Comparing
pub mod Searches
pub mod Kept
