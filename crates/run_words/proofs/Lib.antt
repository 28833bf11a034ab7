pub mod Joining
pub mod Sourcing
pub mod Mapping
