pub mod Departing
pub mod DocumentTrees
pub mod Growth
pub mod LineTexts
pub mod Paths
pub mod Signing
