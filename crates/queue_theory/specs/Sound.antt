-- The queue of the laws, where F, lines and "bridged" are those of a text on its two scales.
use Prim.Native.Nat.{ℕ}
use mathlib.Core.List.{List}
use Rattle.laws.specs.Queue.{Kept}
use Rattle.paper.specs.QueueRules.{Text}
use Rattle.queue_theory.specs.Scales.{Scaled}
use Rattle.queue_theory.specs.Curves.{Settable, G}

-- the queue at start i, with every candidate from lo on considered
abbrev pub Sound : {t : Text} → Scaled t → ℕ → ℕ → List ℕ → Type 0
Sound {t} s i lo q = Kept (G s) s.E t.lines.lmax (Settable t) (s.T i) lo q
