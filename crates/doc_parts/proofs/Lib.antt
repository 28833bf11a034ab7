pub mod Reading
pub mod Names
pub mod Texts
pub mod Blocks
pub mod Spans
pub mod Fronts
pub mod Wholes
