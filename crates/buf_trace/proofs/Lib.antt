pub mod Fronts
pub mod Words
pub mod Numbers
pub mod Roles
pub mod Lines
