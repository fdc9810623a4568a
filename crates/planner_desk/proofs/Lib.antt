pub mod Accepted
pub mod Agreement
pub mod FieldsRead
pub mod Folding
pub mod Slots
pub mod Under
pub mod UndoLemmas
