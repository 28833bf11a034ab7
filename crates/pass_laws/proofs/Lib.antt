pub mod Rounds
pub mod Guards
pub mod Settled
pub mod Stay
pub mod LoopFacts
