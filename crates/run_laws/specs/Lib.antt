pub mod Bindings
pub mod Feeding
pub mod Going
pub mod Peaks
pub mod Sums
pub mod Trace
pub mod Turning
