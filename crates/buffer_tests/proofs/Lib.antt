mod Feeds
mod FeedsLate
mod Offs
mod Passed
mod Places
