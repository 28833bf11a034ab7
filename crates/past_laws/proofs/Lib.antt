pub mod Ahead
pub mod Awaited
pub mod Bases
pub mod Changes
pub mod PastForms
pub mod RowFacts
pub mod Rows
