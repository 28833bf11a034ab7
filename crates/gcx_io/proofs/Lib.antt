mod Caused
pub mod Grown
pub mod Written
pub mod Moved
mod Places
mod Mapped
mod Handles
mod Shelves
mod Seen
mod Filed
mod Opens
mod RealFiles
