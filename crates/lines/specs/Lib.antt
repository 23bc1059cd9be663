pub mod Held
pub mod Asks
pub mod Tests
