pub mod Rels
pub mod Placing
pub mod Known
pub mod Turns
pub mod Texts
pub mod Sizes
