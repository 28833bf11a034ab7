pub mod Balance
pub mod Binding
pub mod Lasting
pub mod LoopRules
pub mod Needs
pub mod Normal
pub mod Plans
pub mod Runs
