pub mod Each
pub mod View
pub mod Many
pub mod Calls
pub mod Parts
pub mod Files
pub mod Runs
