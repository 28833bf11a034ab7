pub mod Falls
pub mod Reading
pub mod Owned
pub mod Growth
pub mod Scope
pub mod RolePaths
