pub mod View
pub mod Projector
pub mod Calls
pub mod Late
pub mod LateRows
pub mod Opening
pub mod Signing
