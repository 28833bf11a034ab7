pub mod Behind
pub mod Sound
