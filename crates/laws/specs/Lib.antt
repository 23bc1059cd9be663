-- What the laws speak of, with the laws that stand below it, each file above those before it. None assumes anything. The laws of
-- "bridged", of the queue and of the pointer stand in proofs/.
pub mod Number
pub mod Cost
pub mod Search
pub mod Setting
pub mod Table
pub mod Chosen
pub mod Square
pub mod Bridge
pub mod Strip
pub mod Outcome
pub mod Members
pub mod Part
pub mod Queue
pub mod Pointer
