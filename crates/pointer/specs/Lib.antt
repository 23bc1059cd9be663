pub mod Taking
pub mod Held
pub mod Asks
