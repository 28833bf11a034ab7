pub mod Machine
pub mod States
pub mod Judging
pub mod Laws
pub mod Bounds
