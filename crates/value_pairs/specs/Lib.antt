pub mod Pairs
pub mod Extremes
pub mod Sets
pub mod Taking
pub mod Sharing
pub mod Taken
