pub mod Equalities
pub mod Index
pub mod IndexStays
pub mod Lookups
pub mod Rising
