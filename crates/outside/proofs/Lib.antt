pub mod Owing
mod Spilling
mod TwoPlaces
