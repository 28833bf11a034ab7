pub mod Acted
pub mod Newly
pub mod Opened
pub mod Rows
pub mod Tables
pub mod Tops
