pub mod Given
pub mod OpenNames
pub mod AttrNames
pub mod Tokens
pub mod Parts
pub mod Kept
