pub mod MarkTrees
mod MarkSearch
pub mod MarkRows
mod MarkLooks
pub mod MarkTold
mod MarkAsks
mod MarkBack
mod MarkList
mod MarkAgain
mod Descending
pub mod PathRows
pub mod Untaken
pub mod UntakenRows
pub mod Takings
mod PairSides
mod PairTruths
mod PairAsks
