-- The rows of a listing, and how they are put into a lent buffer.
pub mod Rows
pub mod Digits
pub mod Puts
pub mod Size
pub mod Writes
