-- What follows from the definitions of document 01: ranges as orders, lines on a scale, demand 2, the bounds of totals, the penalty alone,
-- the space, the editions.
pub mod Ranges
pub mod Entries
pub mod Scale
pub mod Cheapest
pub mod Bound
pub mod Formula
pub mod Alone
pub mod Space
pub mod Edition
pub mod Marked
