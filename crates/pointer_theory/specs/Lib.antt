-- What the theorems on 01's pointer rules speak of: what stands before each start, and what is chosen there. The theorems stand in proofs/.
pub mod Ready
pub mod Choice
