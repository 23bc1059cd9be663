pub mod Choosing
pub mod Asks
