pub mod Following
pub mod Writing
