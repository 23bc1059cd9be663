-- The lines from a start whose last line is longer than lopt: the last line is bounded and charged as every other. Assumes nothing but
-- what each theorem states.
use Prim.Native.Nat.{ℕ, ◌+◌, ◌≤◌, ◌<◌}
use Rattle.std.specs.Prelude.{◌≡◌, Bool, ◌&&◌}
use Rattle.std.proofs.Math.Path.{refl}
use Rattle.std.proofs.Common.{leb→le}
use Rattle.std.proofs.Math.Bool.{true, false}
use native.Mathlib.Omega.{arith}
use Rattle.std.proofs.Math.Dec.{T, leb, eqb}
use borrow.Author.Tests.{eqb-true, lt-leb, le-leb}
use Rattle.laws.specs.Number.{if, both}
use Rattle.laws.specs.Setting.{Choice}
use Rattle.paper.specs.Lines.{Lines, admissible, charge, settings}
use Rattle.paper.specs.QueueRules.{Text}
use Rattle.queue_theory.specs.Scales.{Bested}
use Rattle.queue_theory.specs.Ready.{Measured}

-- ---- the two bounds of an admissible line
module _ (p : Lines) (i j : ℕ) where
  pub bounds : (b : Bool) →
      T (if b (leb p.lastmin (p.line i j) && leb (p.line i j) p.lmax)
      (leb p.lmin (p.line i j) && leb (p.line i j) p.lmax)) →
      (if b p.lastmin p.lmin ≤ p.line i j) × (p.line i j ≤ p.lmax)
  bounds true t =
      let h = both (leb p.lastmin (p.line i j)) (leb (p.line i j) p.lmax) t in
      (leb→le p.lastmin (p.line i j) h.0, leb→le (p.line i j) p.lmax h.1)
  bounds false t =
      let h = both (leb p.lmin (p.line i j)) (leb (p.line i j) p.lmax) t in
      (leb→le p.lmin (p.line i j) h.0, leb→le (p.line i j) p.lmax h.1)

  measure : (b : Bool) → if b p.lastmin p.lmin ≤ p.line i j → p.line i j ≤ p.lmax →
      T (if b (leb p.lastmin (p.line i j) && leb (p.line i j) p.lmax) (leb p.lmin (p.line i j) && leb (p.line i j) p.lmax))
  measure true low high = rw (le-leb p.lastmin (p.line i j) low, le-leb (p.line i j) p.lmax high) tt
  measure false low high = rw (le-leb p.lmin (p.line i j) low, le-leb (p.line i j) p.lmax high) tt

-- ---- the lines from a start whose last line is longer than lopt
module _ {t : Text} (b : Bested t) (i : ℕ) (long : t.lines.lopt < t.lines.line i t.lines.end) where
  -- the last line is bounded and charged as every other
  least_length : (j : ℕ) (e : Bool) → eqb j t.lines.end ≡ e → if e t.lines.lastmin t.lines.lmin ≤ t.lines.line i j →
      t.lines.lmin ≤ t.lines.line i j
  least_length j true e h = let f : j ≡ t.lines.end = eqb-true j t.lines.end e in rw f (omega (arith, b.lopt_low))
  least_length j false e h = h

  pub choice_measure : (j : ℕ) → Choice (settings t.lines) i j →
      (t.lines.lmin ≤ t.lines.line i j) × (t.lines.line i j ≤ t.lines.lmax)
  unfolding settings admissible
  choice_measure j ch =
      let h = bounds t.lines i j (eqb j t.lines.end) ch.admissible in
      (least_length j (eqb j t.lines.end) refl h.0, h.1)

  pub measure_choice : (j : ℕ) → Measured t i j → Choice (settings t.lines) i j
  unfolding settings admissible
  measure_choice j v = record {
    rises = v.above;
    within = v.within;
    admissible = measure t.lines i j (eqb j t.lines.end) (least (eqb j t.lines.end) refl) v.high;
  }
    where
      least : (e : Bool) → eqb j t.lines.end ≡ e → if e t.lines.lastmin t.lines.lmin ≤ t.lines.line i j
      least true e = let f : j ≡ t.lines.end = eqb-true j t.lines.end e in rw f (omega (arith, b.last_low))
      least false e = v.low

  pub charge_is : (j : ℕ) → charge t.lines i j ≡ t.lines.penalty (t.lines.line i j) + t.lines.break j
  unfolding charge
  charge_is j = go (eqb j t.lines.end) refl
    where
      whole : ℕ
      whole = t.lines.penalty (t.lines.line i j) + t.lines.break j

      go : (e : Bool) → eqb j t.lines.end ≡ e → if (e && leb (t.lines.line i j) t.lines.lopt) 0 whole ≡ whole
      go true e =
          let f : j ≡ t.lines.end = eqb-true j t.lines.end e in
          rw (f, lt-leb (t.lines.line i t.lines.end) t.lines.lopt long)
      go false e = refl
