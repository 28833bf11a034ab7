pub mod Judged
pub mod Standing
pub mod Inside
pub mod Piece
pub mod Reading
pub mod Owned
