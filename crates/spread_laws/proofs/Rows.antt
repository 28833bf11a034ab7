-- The definitions compute on rows worked out by hand.

pub mod SpreadRows
