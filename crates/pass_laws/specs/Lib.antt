pub mod Idle
pub mod Turns
pub mod Scopes
pub mod ValueLists
