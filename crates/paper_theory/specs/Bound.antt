-- "With these the penalty of a line inside the measure stays below 2^28 and a paragraph's below 2^40."
use Rattle.std.specs.Prelude.{ℕ, zero, suc, ◌+◌, ◌-◌, ◌*◌, ◌^◌, ◌≤◌, ◌<◌, ◌≡◌, Bool, ◌&&◌, List, ◌∷◌, eqb, length, get_or}
use Rattle.std.proofs.Math.Path.{refl}
use Rattle.std.proofs.Common.{subst, ⊎_elim, mul-le-mul, mul-le-mul_right, leb→le}
use Rattle.std.proofs.Math.Bool.{true, false}
use native.Mathlib.Omega.{arith}
use borrow.Author.Tests.{leb-false}
use Rattle.std.proofs.Math.Dec.{T, leb}
use Rattle.std.proofs.Math.ListN.{get_or-eq_default}
use Rattle.laws.specs.Number.{if, both, all, split}
use Rattle.laws.specs.Cost.{some}
use Rattle.laws.specs.Square.{sqd}
use Rattle.laws.specs.Setting.{Best, best_bound}
use Rattle.paper.specs.declared.Limits.{Limits}
use Rattle.paper.specs.declared.PageLimits.{PageLimits}
use Rattle.paper.specs.Paragraph as Paragraph
use Rattle.paper.specs.Lines as Lines
use Rattle.paper.specs.Lines.{Lines, inside, Inside, admissible, charge, settings}
use Rattle.paper.specs.Paragraph.{line_length, end, penalty, lines}
use Rattle.paper.specs.Index as Index
use Rattle.paper.specs.Index.{item, index}
use Rattle.paper.specs.Allowed.{length_holds}
use Rattle.paper_theory.specs.Ranges.{Ranges}
use Rattle.paper_theory.specs.Scale.{length_holds_lem}
use Rattle.paper_theory.specs.Cheapest.{best_lines, best_index}

-- a square of at most 4,095, fifteen times
square_bound : (a d : ℕ) → a ≤ 15 → d ≤ 4095 → a * (d * d) < 2 ^ 28
square_bound a d ha hd =
    let s : d * d ≤ 4095 * 4095 = mul-le-mul hd hd in
    let t : a * (d * d) ≤ 15 * (4095 * 4095) = mul-le-mul ha s in
    omega (arith, t)

-- the penalty of a line of at most lmax
pub penalty_bound : (l : Limits) → Ranges l → (x : ℕ) → x ≤ l.lmax → penalty l x < 2 ^ 28
unfolding penalty sqd
penalty_bound l r x h =
    ⊎_elim
    (λ g. let e : x - l.lopt ≡ 0 = omega arith in
    rw e (omega (arith, square_bound l.a (l.lopt - x) r.a_high (omega (arith, r.lmax_high, r.lopt_high, r.lmin_low)))))
    (λ g. let e : l.lopt - x ≡ 0 = omega arith in
    rw e (omega (arith, square_bound l.a (x - l.lopt) r.a_high (omega (arith, r.lmax_high, r.lopt_low, r.lmin_low)))))
    (split x l.lopt)

-- ---- over what a paragraph's lines are
module _ (p : Lines) (i j : ℕ) (t : T (admissible p i j)) where
  abbrev between : ℕ → Bool
  between least = inside least p.lmax (p.line i j)

  bounds : (least : ℕ) → T (between least) → Inside least p.lmax (p.line i j)
  bounds least b =
      let h = both (leb least (p.line i j)) (leb (p.line i j) p.lmax) b in
      (leb→le least (p.line i j) h.0, leb→le (p.line i j) p.lmax h.1)

  -- every admissible line is at most lmax
  pub admissible_lmax : p.line i j ≤ p.lmax
  unfolding admissible
  admissible_lmax = go (eqb j p.end) t
    where
      go : (last : Bool) → T (if last (between p.lastmin) (between p.lmin)) → p.line i j ≤ p.lmax
      go true b = (bounds p.lastmin b).1
      go false b = (bounds p.lmin b).1

  -- and, but for a short last line, which costs nothing, at least lmin
  pub admissible_lmin : p.lmin ≤ p.lopt → (eqb j p.end && leb (p.line i j) p.lopt) ≡ false → p.lmin ≤ p.line i j
  unfolding admissible
  admissible_lmin order = go (eqb j p.end) t
    where
      go : (last : Bool) → T (if last (between p.lastmin) (between p.lmin)) → (last && leb (p.line i j) p.lopt) ≡ false →
          p.lmin ≤ p.line i j
      go true b paid = omega (arith, leb-false (p.line i j) p.lopt paid)
      go false b paid = (bounds p.lmin b).0

-- a line within lmax costs at most C, with what its break is charged
module _ (p : Lines) (C : ℕ) (each : (x : ℕ) → x ≤ p.lmax → (j : ℕ) → p.penalty x + p.break j ≤ C) where
  line_bound : (i j : ℕ) → p.line i j ≤ p.lmax → charge p i j ≤ C
  unfolding charge
  line_bound i j h = go (eqb j p.end && leb (p.line i j) p.lopt)
    where
      go : (b : Bool) → if b 0 (p.penalty (p.line i j) + p.break j) ≤ C
      go true = omega arith
      go false = each (p.line i j) h j

  pub lines_bound : (i v : ℕ) → i ≤ p.end → Lines.best p i ≡ some v → v ≤ (p.end - i) * C
  unfolding settings
  lines_bound i v high e =
      best_bound (settings p) C (λ j k ch. line_bound j k (admissible_lmax p j k ch.admissible)) (λ c n. omega arith) refl i v high
      (subst (Best (settings p) i) e (best_lines p i high))

-- what a line of the paragraph costs
pub charge_is : (l : Limits) (ws : List ℕ) (i j : ℕ) →
    Paragraph.charge l ws i j ≡ if (eqb j (end ws) && leb (line_length l ws i j) l.lopt) 0 (penalty l (line_length l ws i j))
unfolding Paragraph.charge charge lines
charge_is l ws i j = go (eqb j (end ws) && leb (line_length l ws i j) l.lopt)
  where
    go : (b : Bool) → if b 0 (penalty l (line_length l ws i j) + 0) ≡ if b 0 (penalty l (line_length l ws i j))
    go true = refl
    go false = omega arith

pub charge_bound : (l : Limits) → Ranges l → (ws : List ℕ) (i j : ℕ) → line_length l ws i j ≤ l.lmax → Paragraph.charge l ws i j < 2 ^ 28
charge_bound l r ws i j h = rw (charge_is l ws i j) (go (eqb j (end ws) && leb (line_length l ws i j) l.lopt))
  where
    go : (b : Bool) → if b 0 (penalty l (line_length l ws i j)) < 2 ^ 28
    go true = omega arith
    go false = penalty_bound l r (line_length l ws i j) h

pub paragraph_bound : (l : Limits) → Ranges l → (ws : List ℕ) → length ws ≤ 4096 → (i v : ℕ) → 1 ≤ i → i ≤ end ws →
    Paragraph.best l ws i ≡ some v → v < 2 ^ 40
unfolding Paragraph.best lines
paragraph_bound l r ws few i v low high e =
    let t : v ≤ (end ws - i) * (2 ^ 28 - 1) =
    lines_bound (lines l ws) (2 ^ 28 - 1) (λ x h j. omega (arith, penalty_bound l r x h)) i v high e in
    let m : end ws - i ≤ 4096 = omega arith in
    omega (arith, mul-le-mul_right (2 ^ 28 - 1) m)

item_bound : (ws : List ℕ) → T (all (length_holds 0) ws) → (i : ℕ) → item ws i ≤ 4095
unfolding item
item_bound ws t i = go i
  where
    go : (i : ℕ) → get_or (0 ∷ ws) i 0 ≤ 4095
    go zero = omega arith
    go (suc k) =
        ⊎_elim
        (λ h. omega (arith, get_or-eq_default ws 0 {n = k} h))
        (λ h. omega (arith, (length_holds_lem 0 ws t k h).1))
        (split (length ws) k)

pub index_bound : (l : PageLimits) (ws : List ℕ) → T (all (length_holds 0) ws) → length ws ≤ 4096 → (i v : ℕ) → i ≤ end ws →
    Index.best l ws i ≡ some v → v < 2 ^ 25
unfolding index
index_bound l ws allowed few i v high e =
    let b : Best (index l ws) i (some v) = subst (Best (index l ws) i) e (best_index l ws i high) in
    let t : v ≤ (end ws - i) * 4095 = best_bound (index l ws) 4095 (λ j k ch. item_bound ws allowed j)
    (λ c n. omega arith) refl i v high b in
    omega arith
