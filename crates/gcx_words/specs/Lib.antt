pub mod Pairs
pub mod Words
pub mod Rows
pub mod Within
