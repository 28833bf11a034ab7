pub mod Name
pub mod Limits
pub mod Characters
pub mod Utf8
pub mod Kinds
pub mod Tests
pub mod Fours
