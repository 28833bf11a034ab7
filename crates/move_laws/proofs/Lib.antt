pub mod Blocked
pub mod CopyCut
pub mod CopyFrames
pub mod CopyMoves
pub mod Keeping
pub mod Moving
pub mod Unmoved
