-- Two texts that agree where the queue rules look: on lines from the start, between its later breaks, and on their bests.
use Prim.Native.Nat.{ℕ, ◌≤◌, ◌<◌}
use Rattle.std.specs.Prelude.{◌≡◌}
use Rattle.laws.specs.Cost.{Cost}
use Rattle.paper.specs.QueueRules.{Text}

-- a text with the limits of t, and other parts
abbrev pub text_with : Text → ℕ → (ℕ → ℕ) → (ℕ → ℕ → ℕ) → (ℕ → ℕ) → (ℕ → ℕ → ℕ) → (ℕ → Cost) → Text
text_with t end formula lines breaks aparts bests = record {
  lines = record {
    end = end;
    lmin = t.lines.lmin;
    lopt = t.lines.lopt;
    lmax = t.lines.lmax;
    lastmin = t.lines.lastmin;
    line = lines;
    penalty = formula;
    break = breaks;
  };
  a = t.a;
  apart = aparts;
  best = bests;
}

-- the parts agree with those of t where the rules of start i look
pub record Agrees (t : Text) (lines aparts : ℕ → ℕ → ℕ) (bests : ℕ → Cost) (i : ℕ) : Type 0 where
  pub from_start : (k : ℕ) → i ≤ k → k ≤ t.lines.end → lines i k ≡ t.lines.line i k
  pub between : (j k : ℕ) → i < j → j ≤ k → k ≤ t.lines.end → aparts j k ≡ t.apart j k
  pub later : (k : ℕ) → i < k → k ≤ t.lines.end → bests k ≡ t.best k
