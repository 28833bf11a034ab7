pub mod Gaining
pub mod Looking
pub mod Climbing
pub mod Growing
pub mod Sprouting
pub mod Naming
mod Branching
mod RoleSets
mod Making
mod Slots
mod Rooming
mod Remembering
mod Opening
