-- 01's queue rules are right, over any text whose lines are differences of two rising scales: what stands at each start, how many moves
-- are taken, and that the front is the chosen next. The paragraph is the instance with the sums as ends, and a space later as beginnings.
pub mod Scales
pub mod Turns
pub mod Leaves
pub mod Count
pub mod Ready
pub mod Curves
pub mod Sound
pub mod Applied
pub mod Agree
pub mod Long
pub mod Short
pub mod Front
pub mod Paragraph
pub mod Outside
