pub mod Rows
pub mod RowSteps
pub mod Finding
pub mod Cursors
pub mod Below
mod Variables
pub mod Parts
mod Flipping
pub mod Comparisons
pub mod Pairing
pub mod Telling
mod Searches
mod Texts
mod Alone
mod Counts
mod Nexts
pub mod Stored
pub mod Kept
pub mod SameSteps
