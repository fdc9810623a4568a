pub mod EachPut
pub mod FoundFirst
pub mod OthersStay
pub mod PutsMore
pub mod Spared
