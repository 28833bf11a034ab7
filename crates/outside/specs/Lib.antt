pub mod Tokens
pub mod Outputs
pub mod Places
pub mod Orders
pub mod Follows
pub mod Ports
pub mod TracedPorts
pub mod Laws
