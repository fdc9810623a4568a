pub mod Trips
pub mod StopTimes
pub mod FeedTrips
pub mod Kept
pub mod Base
