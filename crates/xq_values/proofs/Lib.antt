pub mod Digits
pub mod Grammar
pub mod Orders
pub mod Wholes
