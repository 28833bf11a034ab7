pub mod Demand
pub mod Taking
