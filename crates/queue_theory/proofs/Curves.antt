-- F, lines and "bridged" on the two scales, where the laws of curves and of the queue hold. Assumes nothing but what each law states.
use Rattle.std.specs.Prelude.{ℕ, ◌+◌, ◌-◌, ◌*◌, ◌≤◌, ◌<◌, ◌≡◌, refl, Bool, true, false, ◌&&◌}
use Rattle.std.proofs.Math.Path.{ap}
use Rattle.std.proofs.Common.{sym, ◌∙◌, arith, leb-true, le-leb}
use Rattle.std.proofs.Math.Dec.{leb}
use Rattle.laws.specs.Square.{sqd, sqd_line}
use Rattle.laws.specs.Bridge.{curve, Bridged}
use Rattle.laws.proofs.Monotone.{monotone}
use Rattle.laws.proofs.Bridge.{edge_side, bridged_gives, not_bridged_gives}
use Rattle.laws.specs.Queue.{Laws, Ordered, Useless}
use Rattle.paper.specs.QueueRules.{Text, best_of, F, edge, chord, bridged}
use Rattle.queue_theory.specs.Scales.{Scaled}
use Rattle.queue_theory.proofs.Scales.{ends_le}
use Rattle.queue_theory.specs.Ready.{Measured}
use Rattle.queue_theory.specs.Curves.{Settable, G}

module _ {t : Text} (s : Scaled t) where
  -- a line on the scales
  pub line_is : (i j : ℕ) → 1 ≤ i → i < j → j ≤ t.lines.end → t.lines.line i j ≡ s.E j - s.T i
  line_is i j h ij je = omega (arith, s.line i j h ij je)

  apart_is : (j k : ℕ) → 1 ≤ j → j ≤ k → k ≤ t.lines.end → t.apart j k ≡ s.E k - s.E j
  apart_is j k h jk ke = omega (arith, s.apart j k h jk ke)

  pub F_is : (i j : ℕ) → 1 ≤ i → Measured t i j → F t i j ≡ G s j (s.T i)
  unfolding F G
  F_is i j h v =
      ap (λ (n : ℕ). best_of t j + n)
      (s.formula (t.lines.line i j) v.low v.high
      ∙ ap (λ (x : ℕ). t.a * sqd x t.lines.lopt) (line_is i j h v.above v.within)
      ∙ ap (λ (n : ℕ). t.a * n) (sqd_line (s.E j) (s.T i) t.lines.lopt (omega (arith, s.line i j h v.above v.within))))

  pub laws : Laws (G s) s.E (Settable t)
  unfolding G
  laws = record {
    gain = λ j k x y hasj hask lt back.
        monotone t.a (best_of t j) (s.E j) (best_of t k) (s.E k) (x + t.lines.lopt) (y + t.lines.lopt)
        (ends_le s j k hasj.from (omega arith) hask.within) (omega arith);
    rise = λ j k hasj hask lt. ends_le s j k hasj.from (omega arith) hask.within;
  }

  -- ---- "bridged" of the queue rules is that of the laws
  module _ (j k m : ℕ) (from : 1 ≤ j) (jk : j < k) (km : k < m) (within : m ≤ t.lines.end)
      (near : t.apart j m + t.lines.lmin ≤ t.lines.lmax) where
    abbrev Both : Type 0
    Both = Bridged t.lines.lmax t.lines.lopt t.a (best_of t j) (s.E j) (best_of t k) (s.E k) (best_of t m) (s.E m)

    -- one side of the edge test, for j and for k
    abbrev side_of : ℕ → ℕ
    side_of i = curve t.a (best_of t i) (s.E i + t.lines.lmax) (s.E m + t.lines.lopt)

    side : (i : ℕ) → j ≤ i → i ≤ m → best_of t i + t.lines.penalty (t.lines.lmax - t.apart i m) ≡ side_of i
    side i ji im =
        let e = apart_is i m (omega arith) im within in
        let f : t.apart i m + t.lines.lmin ≤ t.lines.lmax =
        omega (arith, near, apart_is j m from (omega arith) within, ends_le s j i from ji (omega arith)) in
        ap (λ (n : ℕ). best_of t i + n) (s.formula (t.lines.lmax - t.apart i m) (omega arith) (omega arith))
        ∙ ap (λ (d : ℕ). best_of t i + t.a * sqd (t.lines.lmax - d) t.lines.lopt) e
        ∙ edge_side t.lines.lmax t.lines.lopt t.a (best_of t i) (s.E i) (s.E m) (ends_le s i m (omega arith) im within)
        (omega arith)

    edge_is : edge t j k m ≡ leb (side_of j) (side_of k)
    unfolding edge
    edge_is = rw (side j (omega arith) (omega arith), side k (omega arith) (omega arith))

    chord_is : chord t j k m
        ≡ leb ((s.E m - s.E k) * best_of t j + (s.E k - s.E j) * best_of t m
        + t.a * ((s.E k - s.E j) * (s.E m - s.E k) * (s.E m - s.E j)))
        ((s.E m - s.E j) * best_of t k)
    unfolding chord
    chord_is =
        rw (
          apart_is j k from (omega arith) (omega arith),
          apart_is k m (omega arith) (omega arith) within,
          apart_is j m from (omega arith) within,
        )
        (ap (λ (n : ℕ). leb n ((s.E m - s.E j) * best_of t k)) (omega arith))

    -- a test of two holds exactly where both do
    both_true : (a b : Bool) → (a && b) ≡ true → (a ≡ true) × (b ≡ true)
    both_true true b e = (refl, e)
    both_true false b e = absurd (let z : ◌≡◌ {A = ℕ} 0 1 = cc in omega arith)

    bridged_both : bridged t j k m ≡ true → Both
    bridged_both e =
        let h = both_true (edge t j k m) (chord t j k m) e in
        record { edge = leb-true _ _ (sym edge_is ∙ h.0); chord = leb-true _ _ (sym chord_is ∙ h.1) }

    not_bridged : bridged t j k m ≡ false → ¬ Both
    not_bridged e b =
        let f : edge t j k m ≡ true = edge_is ∙ le-leb _ _ b.edge in
        let g : chord t j k m ≡ true = chord_is ∙ le-leb _ _ b.chord in
        let z : ◌≡◌ {A = Bool} true false = sym (rw (f, g)) ∙ e in
        let w : ◌≡◌ {A = ℕ} 0 1 = cc in
        omega arith

    -- what the test says of the curves, at every position
    module _ (x : ℕ) where
      pub bridged_useless : bridged t j k m ≡ true → Useless (G s) s.E t.lines.lmax x j k m
      unfolding G
      bridged_useless e y yx h =
          bridged_gives t.lines.lmax t.lines.lopt t.a (best_of t j) (s.E j) (best_of t k) (s.E k) (best_of t m) (s.E m) y
          (s.ends_rise j k from jk (omega arith)) (s.ends_rise k m (omega arith) km within) (bridged_both e) h

      pub bridged_ordered : bridged t j k m ≡ false → Ordered (G s) s.E t.lines.lmax x j k m
      unfolding G
      bridged_ordered e y yx live h =
          not_bridged_gives t.lines.lmax t.lines.lopt t.a (best_of t j) (s.E j) (best_of t k) (s.E k) (best_of t m) (s.E m) y
          (s.ends_rise j k from jk (omega arith)) (s.ends_rise k m (omega arith) km within) live (not_bridged e) h
