mod Apart
mod EventApplies
mod AtWork
mod BrokenReplays
mod LinkCounts
mod CourseItems
pub mod GoingOn
mod Items
mod NotedItems
mod OnWays
mod EventPerformed
mod Placed
mod SentDown
mod Small
mod PlacesOnWays
mod Whole
mod WorldOn
