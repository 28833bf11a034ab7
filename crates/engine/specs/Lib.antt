pub mod View
pub mod Engine
pub mod Going
pub mod Calls
pub mod Runs
pub mod Turns
