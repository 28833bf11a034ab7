pub mod Machine
pub mod Steps
pub mod Sound
pub mod Refusals
pub mod Limited
