-- The listing of a job: what it is, what is promised of it, and the most bytes it has. Worked listings stand in proofs/.
pub mod Listing
pub mod Promise
pub mod Summed
pub mod Asks
pub mod Given
pub mod Settings
pub mod Size
