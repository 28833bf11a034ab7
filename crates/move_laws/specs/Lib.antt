pub mod Copying
pub mod Kept
pub mod Moves
pub mod Quiet
