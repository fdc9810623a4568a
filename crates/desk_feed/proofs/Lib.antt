mod FirstLemmas
pub mod GivenLemmas
pub mod OneMatrix
pub mod PapersLemmas
pub mod SaidLemmas
pub mod ScriptLemmas
