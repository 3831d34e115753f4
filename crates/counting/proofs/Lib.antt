-- Laws of the counters, for the crates above.
pub mod Between
pub mod DueMasks
pub mod LabelsDue
pub mod Least
pub mod Marks
pub mod OfTable
pub mod OnePair
pub mod PairTests
pub mod PointKinds
pub mod ReadsCounted
pub mod ReadsMany
pub mod Start
pub mod Steps
