pub mod Depths
pub mod Own
pub mod Projection
pub mod Adding
