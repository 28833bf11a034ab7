-- The definitions compute on rows worked out by hand.

pub mod AnswerRows
pub mod KnownRows
pub mod NormalRows
pub mod PlanRows
pub mod Words
