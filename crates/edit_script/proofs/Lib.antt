mod EditBack
mod FieldsRead
mod JudgedLemmas
mod KeptLemmas
mod LinesWritten
mod MachineLemmas
mod MadeLemmas
mod MinuteText
mod ShiftBack
mod ShiftLemmas
mod TouchLemmas
mod TimetablesLemmas
pub mod FoldsLemmas
