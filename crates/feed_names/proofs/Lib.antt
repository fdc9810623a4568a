pub mod NamesSaid
pub mod NamesStanding
