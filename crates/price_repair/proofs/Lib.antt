pub mod AddLemmas
pub mod BeforeLemmas
pub mod CutLemmas
pub mod EditLemmas
pub mod RepairedLemmas
pub mod WithoutLemmas
