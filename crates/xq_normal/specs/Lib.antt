pub mod ConditionText
pub mod Sums
pub mod Raw
pub mod Scopes
pub mod Shapes
pub mod Calls
