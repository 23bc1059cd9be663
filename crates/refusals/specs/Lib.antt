pub mod Checks
pub mod Accepted
pub mod Tells
