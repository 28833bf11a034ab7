pub mod Explained
pub mod Spread
pub mod Ends
pub mod Refused
pub mod Sized
