-- The job reader: what a job is read as, what the reader promises, and worked jobs.
pub mod Reader
pub mod Promise
pub mod Section
pub mod Bounds
pub mod Jobs
