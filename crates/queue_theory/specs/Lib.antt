-- What the theorems on 01's queue rules speak of: texts whose lines are differences of two rising scales, what stands at each start, and
-- texts that agree. The theorems stand in proofs/.
pub mod Scales
pub mod Leaves
pub mod Ready
pub mod Curves
pub mod Sound
pub mod Applied
pub mod Agree
