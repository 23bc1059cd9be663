pub mod Passes
pub mod Measuring
pub mod Rows
pub mod Answers
pub mod Setters
pub mod Settings
pub mod Size
pub mod Worked
