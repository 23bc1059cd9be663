pub mod Gaps
pub mod Taking
pub mod Lowers
pub mod Points
pub mod Joining
pub mod Joined
pub mod Settles
pub mod Starting
