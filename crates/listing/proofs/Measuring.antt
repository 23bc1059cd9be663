-- A line's length and cost, read from the sums. Assumes nothing but what each law states.
use Prim.Native.Nat.{ℕ, ◌+◌, ◌-◌, ◌≤◌}
use mathlib.Core.Path.{◌≡◌, refl, ap, ◌∙◌}
use mathlib.Core.Logic.{◌⊎◌, inl, inr, ⊎_elim}
use mathlib.Core.Bool.{Bool, true, false, ◌&&◌}
use mathlib.Core.List.{List}
use native.Mathlib.Omega.{arith}
use borrow.Author.Tests.{eq-eqb, ne_eqb}
use lib.Dec.{leb, eqb}
use lib.ListN.{length, get_or}
use Rattle.paper.specs.declared.Limits.{Limits}
use Rattle.paper.specs.Lines.{Inside}
use Rattle.paper.specs.Paragraph.{end, line_length, penalty}
use Rattle.paper_theory.specs.Bound.{charge_is}
use Rattle.paper_theory.specs.Ranges.{Ranges, ranges}
use Rattle.paper_theory.specs.Scale.{up_to, length_scale}
use Rattle.strips.specs.Words.{length_sums, get_or_sums}
use Rattle.lines.specs.Held.{span}
use Rattle.lines.specs.Asks.{Span}
use Rattle.listing.specs.Listing.{holds, space_in}
use Rattle.listing.specs.Asks.{LineAsks, LineIs}
use Rattle.listing.proofs.Settings.{line_low, line_high}

not_both : (b c : Bool) → (b ≡ false) ⊎ (c ≡ false) → (b && c) ≡ false
not_both true c h = ⊎_elim (λ e. let z : ◌≡◌ {A = ℕ} 0 1 = cc in absurd (omega arith)) (λ e. e) h
not_both false c h = refl

module _ {l : Limits} {ws S : List ℕ} {i j : ℕ} (a : LineAsks l ws S i j) where
  held : (k : ℕ) → k ≤ length ws → get_or S k 0 ≡ up_to ws k
  held k h = ap (λ (s : List ℕ). get_or s k 0) a.text.sums ∙ get_or_sums ws k h

  strip_length : length S ≡ length ws + 1
  strip_length = ap length a.text.sums ∙ length_sums ws

  -- on the strip, the line begins a space after its start
  placed : get_or S (i - 1) 0 + l.space + line_length l ws i j ≡ get_or S (j - 1) 0
  unfolding space_in
  placed =
      let p = a.segment in
      rw (held (j - 1) (omega (arith, p.within)), held (i - 1) (omega (arith, p.within, p.order)))
      (length_scale l ws a.text.passed.lengths i j p.first p.order p.within)

  pub line_span : Span l.space S i j
  line_span = record {
    first = a.segment.first;
    order = omega (arith, a.segment.order);
    inside = omega (arith, a.segment.within, strip_length);
    above = omega (arith, placed);
  }

  span_is : span S i j - l.space ≡ line_length l ws i j
  span_is = omega (arith, placed)

  module _ {x y : ℕ} (ex : x ≡ span S i j - l.space) (ey : y ≡ x) where
    length_is : x ≡ line_length l ws i j
    length_is = ex ∙ span_is

    pub free_is : j ≡ end ws → leb x l.lopt ≡ true → LineIs l ws i j (record { length = y; cost = 0 })
    free_is last short = record {
      length = ey ∙ length_is;
      cost = rw (charge_is l ws i j, ← length_is, eq-eqb j (end ws) last, short);
    }

    -- every other is inside the measure, and costs its penalty
    module _ (paid : (leb x l.lopt ≡ false) ⊎ (j ≡ end ws → ⊥)) where
      not_free : (eqb j (end ws) && leb x l.lopt) ≡ false
      not_free = not_both (eqb j (end ws)) (leb x l.lopt) (⊎_elim inr (λ h. inl (ne_eqb j (end ws) h)) paid)

      pub paid_inside : Ranges l × Inside l.lmin l.lmax x
      unfolding holds
      paid_inside =
          let n = length_is in
          let r = ranges l a.text.passed.limits in
          let low = line_low a.segment r.lopt_low (rw n at not_free) in
          (r, (omega (arith, low), omega (arith, line_high a.segment)))

      pub paid_is : {p : ℕ} → p ≡ penalty l x → LineIs l ws i j (record { length = y; cost = p })
      paid_is e = record {
        length = ey ∙ length_is;
        cost = rw (charge_is l ws i j, ← length_is, not_free) e;
      }
