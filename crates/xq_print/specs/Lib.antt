pub mod Literals
pub mod Printed
pub mod ReadsBack
