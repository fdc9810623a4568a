pub mod CountLemmas
pub mod DeskLemmas
pub mod FollowLemmas
pub mod PlansLemmas
pub mod StandingLemmas
