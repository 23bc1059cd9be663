-- Bytes that are put where rows stand. Assumes nothing.
use Rattle.std.specs.Prelude.{ℕ, ◌≡◌, List}
use Rattle.rows.specs.declared.Rows.{Rows}
use Rattle.rows.specs.Puts.{Puts}

-- the bytes are put from the place on, into the same buffer
abbrev pub Writes : List ℕ → Rows → Rows → Type 0
Writes bytes r s = (s.out.ghost_name ≡ r.out.ghost_name) × Puts bytes r.at r.out.now s.at s.out.now
