pub mod Tops
pub mod Keeping
