mod Begun
mod Cuts
mod Truths
pub mod Runs
pub mod Clocks
mod LastOffs
mod Lives
pub mod Traces
pub mod Starts
mod Judged
mod InOrder
