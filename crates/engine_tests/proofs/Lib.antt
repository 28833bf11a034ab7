pub mod Tokens
pub mod Acted
pub mod Manies
pub mod Demand
pub mod Taking
