pub mod Dates
pub mod Calendar
pub mod CalendarDates
pub mod Services
pub mod Laws
