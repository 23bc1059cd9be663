-- W-205, the start whose remaining words, as one line, are shorter than the least last length: it has no setting. Assumes nothing but what
-- each theorem states.
use Prim.Native.Nat.{ℕ, ◌+◌, ◌≤◌, ◌<◌}
use Rattle.std.specs.Prelude.{◌≡◌, Bool, ◌&&◌}
use Rattle.std.proofs.Math.Path.{refl}
use Rattle.std.proofs.Common.{subst}
use Rattle.std.proofs.Math.Bool.{true}
use mathlib.Core.List.{List, [], ◌∷◌}
use native.Mathlib.Omega.{arith}
use Rattle.std.proofs.Math.Dec.{T, leb}
use borrow.Author.Tests.{eq-eqb}
use Rattle.laws.specs.Number.{if}
use Rattle.laws.specs.Cost.{none}
use Rattle.laws.specs.Setting.{Admissible}
use Rattle.paper.specs.Lines as Lines
use Rattle.paper.specs.Lines.{Lines, admissible, settings}
use Rattle.paper.specs.QueueRules.{Text}
use Rattle.paper_theory.specs.Cheapest.{lines_none}
use Rattle.queue_theory.specs.Scales.{Scaled, Bested}
use Rattle.queue_theory.proofs.Scales.{line_shorter}
use Rattle.queue_theory.proofs.Long.{bounds}

module _ {t : Text} (s : Scaled t) (b : Bested t) (n : ℕ) (size : t.lines.end ≡ n + 1) (i : ℕ) (start : 1 ≤ i) (inside : i ≤ n) where
  abbrev p : Lines
  p = t.lines

  -- W-205: "a start whose remaining words, as one line, are shorter than lastmin has no setting": lines to the end only grow as their start
  -- goes back, so the last line of a setting is no longer than the rest
  last_length : (k : ℕ) (js : List ℕ) → 1 ≤ k → Admissible (settings p) k js → p.lastmin ≤ p.line k p.end
  unfolding settings admissible
  last_length k [] from h =
      (bounds p k p.end true (subst (λ (e : Bool). T (if e (leb p.lastmin (p.line k p.end) && leb (p.line k p.end) p.lmax)
      (leb p.lmin (p.line k p.end) && leb (p.line k p.end) p.lmax))) (eq-eqb p.end p.end refl) h.admissible)).0
  last_length k (j ∷ js) from h =
      omega (
        arith,
        last_length j js (omega (arith, h.0.rises)) h.1,
        line_shorter s k j p.end from (omega (arith, h.0.rises)) h.0.within (omega arith),
      )

  module _ (short : p.line i p.end < p.lastmin) where
    pub short_none : Lines.best p i ≡ none
    short_none = (lines_none p i (omega (arith, size))).1 (λ js h. omega (arith, last_length i js start h))
