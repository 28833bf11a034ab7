pub mod Counts
pub mod Feeds
pub mod Free
pub mod Goes
pub mod Rows
pub mod Summing
pub mod Traces
pub mod TurnsReached
