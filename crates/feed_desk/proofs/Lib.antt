pub mod DrawnLemmas
pub mod MomentsLemmas
