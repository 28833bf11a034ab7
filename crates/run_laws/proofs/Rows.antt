-- The definitions compute on rows worked out by hand.

pub mod HeldRows
pub mod TraceRows
pub mod TurnRows
