pub mod DateLemmas
pub mod DayLemmas
pub mod ViewedLemmas
pub mod RunningLemmas
