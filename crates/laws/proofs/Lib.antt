-- The laws of "bridged", of the queue and of the pointer. None assumes anything.
pub mod Monotone
pub mod Bridge
pub mod Queue
pub mod Pointer
