-- The definitions of document 01, in its order, with those that 02's requests add. Each stands under the sentence that it renders.
pub mod Lines
pub mod Paragraph
pub mod Index
pub mod Allowed
pub mod Told
pub mod Moves
pub mod QueueRules
pub mod Applied
pub mod PointerRules
pub mod Strips
pub mod Computes
pub mod Marked
