-- W-204: a length that is inside the measure of a text.
use Prim.Native.Nat.{ℕ}
use Rattle.paper.specs.Lines.{Inside}
use Rattle.paper.specs.QueueRules.{Text}

abbrev pub InMeasure : Text → ℕ → Type 0
InMeasure t = Inside t.lines.lmin t.lines.lmax
