pub mod Sections
pub mod Answers
pub mod Bounds
pub mod First
pub mod Jobs
