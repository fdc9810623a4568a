pub mod SqliteKeeper
