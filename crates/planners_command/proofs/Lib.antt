pub mod Given
pub mod MomentsLemmas
pub mod NumbersLemmas
pub mod PlannersLaws
