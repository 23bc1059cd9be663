-- What is computed for the thirteen marked rows, and for those of W-202 and W-205, is what they say. Assumes nothing.
use Rattle.std.specs.Prelude.{refl}
use Rattle.paper.specs.Computes.{paragraph_computes, index_computes}
use Rattle.paper.specs.Marked.{table, space_table, last_table, computed, Computed}

pub rows_computed : Computed table
unfolding computed paragraph_computes index_computes
rows_computed = refl

pub space_rows_computed : Computed space_table
unfolding computed paragraph_computes
space_rows_computed = refl

pub last_rows_computed : Computed last_table
unfolding computed paragraph_computes
last_rows_computed = refl
