pub mod Spans
pub mod Blocks
pub mod Reading
pub mod Wholes
