mod Orders
mod Bounds
mod Holding
mod Meeting
mod Hands
mod Passing
