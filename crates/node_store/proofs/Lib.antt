pub mod Maps
pub mod Siblings
pub mod Trees
pub mod Seams
pub mod Held
pub mod SlabRows
