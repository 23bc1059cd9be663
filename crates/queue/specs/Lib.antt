pub mod Asks
pub mod Next
