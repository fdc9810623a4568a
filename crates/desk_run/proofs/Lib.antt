pub mod Answered
pub mod Carried
pub mod EachStatus
pub mod InOrder
pub mod OneByOne
pub mod Pages
