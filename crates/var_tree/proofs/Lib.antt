pub mod Tables
pub mod Growing
pub mod Kept
pub mod Reading
