pub mod Times
pub mod Leaving
pub mod Checking
pub mod Laws
