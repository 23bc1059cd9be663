-- What is computed from the definitions is what document 01 and 02's requests say of their rows, edges and worked moves.
pub mod Marked
pub mod Edges
