-- Lines and gaps as differences on one rising scale, the sums. Assumes nothing but what each law states.
use Prim.Native.Nat.{ℕ, zero, suc, ◌+◌, ◌-◌, ◌*◌, ◌≤◌, ◌<◌}
use Rattle.std.specs.Prelude.{◌≡◌, refl, T, leb, ltb, length, take, drop, get_or}
use Rattle.std.proofs.Common.{ap, sym, subst, ◌∙◌, arith, ltb→lt, take-add}
use mathlib.Core.List.{List, [], ◌∷◌, ◌++◌}
use Rattle.std.proofs.Math.Dec.{leb→le}
use Rattle.laws.specs.Number.{all, both}
use Rattle.paper.specs.declared.Limits.{Limits}
use Rattle.paper.specs.Paragraph.{sum, line, line_length, end}
use Rattle.paper.specs.Index.{gap}
use Rattle.paper.specs.Allowed.{length_holds}

-- the total of the first k lengths
unfoldable pub up_to : List ℕ → ℕ → ℕ
up_to ws k = sum (take k ws)

pub sum_append : (xs ys : List ℕ) → sum (xs ++ ys) ≡ sum xs + sum ys
unfolding sum
sum_append [] ys = omega arith
sum_append (x ∷ xs) ys = omega (arith, sum_append xs ys)

pub up_to_zero : (ws : List ℕ) → up_to ws 0 ≡ 0
unfolding up_to sum
up_to_zero ws = refl

-- the words after the first k, d of them
part : (ws : List ℕ) (k d : ℕ) → up_to ws k + sum (take d (drop k ws)) ≡ up_to ws (k + d)
unfolding up_to
part ws k d = sym (ap sum (take-add k d ws) ∙ sum_append (take k ws) (take d (drop k ws)))

-- Line(i, j) on the scale
pub line_scale : (ws : List ℕ) (i j : ℕ) → 1 ≤ i → i ≤ j → up_to ws (i - 1) + line ws i j ≡ up_to ws (j - 1)
unfolding line
line_scale ws i j h k = part ws (i - 1) (j - i) ∙ ap (up_to ws) (omega arith)

pub line_is : (ws : List ℕ) (i j : ℕ) → 1 ≤ i → i ≤ j → line ws i j ≡ up_to ws (j - 1) - up_to ws (i - 1)
line_is ws i j h k = omega (arith, line_scale ws i j h k)

-- Gap(a, b) on the scale
pub gap_scale : (ws : List ℕ) (a b : ℕ) → a < b → up_to ws a + gap ws a b ≡ up_to ws (b - 1)
unfolding gap
gap_scale ws a b h = part ws a (b - a - 1) ∙ ap (up_to ws) (omega arith)

-- one word more
pub up_to_suc : (ws : List ℕ) (k : ℕ) → k < length ws → up_to ws (suc k) ≡ up_to ws k + get_or ws k 0
unfolding up_to sum
up_to_suc [] k h = absurd (omega arith)
up_to_suc (w ∷ ws) zero h = omega arith
up_to_suc (w ∷ ws) (suc k) h = omega (arith, up_to_suc ws k (omega arith))

-- the scale rises
pub up_to_mono : (ws : List ℕ) (j d : ℕ) → up_to ws j ≤ up_to ws (j + d)
up_to_mono ws j d = omega (arith, part ws j d)

pub up_to_le : (ws : List ℕ) (j k : ℕ) → j ≤ k → up_to ws j ≤ up_to ws k
up_to_le ws j k h = subst (λ (m : ℕ). up_to ws j ≤ up_to ws m) (omega arith) (up_to_mono ws j (k - j))

-- ---- lengths that are allowed
module _ (space : ℕ) where
  pub length_holds_lem : (ws : List ℕ) → T (all (length_holds space) ws) → (k : ℕ) → k < length ws →
      (space < get_or ws k 0) × (get_or ws k 0 ≤ 4095)
  unfolding length_holds
  length_holds_lem [] t k h = absurd (omega arith)
  length_holds_lem (w ∷ ws) t zero h =
      let a = (both (length_holds space w) (all (length_holds space) ws) t).0 in
      let b = both (ltb space w) (leb w 4095) a in
      (ltb→lt space w b.0, leb→le w 4095 b.1)
  length_holds_lem (w ∷ ws) t (suc k) h =
      length_holds_lem ws (both (length_holds space w) (all (length_holds space) ws) t).1 k (omega arith)

  module _ (ws : List ℕ) (allowed : T (all (length_holds space) ws)) where
    -- by more than the space where there is a word
    pub up_to_rise : (j k : ℕ) → j < k → k ≤ length ws → up_to ws j + space < up_to ws k
    up_to_rise j k h g =
        omega (arith, up_to_suc ws j (omega arith), (length_holds_lem ws allowed j (omega arith)).0, up_to_le ws (suc j) k (omega arith))

    -- by at most 4,095 a word
    pub up_to_bound : (k : ℕ) → k ≤ length ws → up_to ws k ≤ k * 4095
    up_to_bound zero h = omega (arith, up_to_zero ws)
    up_to_bound (suc k) h =
        omega (arith, up_to_bound k (omega arith), up_to_suc ws k (omega arith), (length_holds_lem ws allowed k (omega arith)).1)

-- ---- a line's length on the scale
-- a line has a word, and so the space is less than its sum: it begins that much later
pub length_scale : (l : Limits) (ws : List ℕ) → T (all (length_holds l.space) ws) → (i j : ℕ) → 1 ≤ i → i < j → j ≤ end ws →
    up_to ws (i - 1) + l.space + line_length l ws i j ≡ up_to ws (j - 1)
unfolding line_length
length_scale l ws allowed i j h ij je =
    omega (
      arith,
      line_scale ws i j h (omega arith),
      up_to_rise l.space ws allowed (i - 1) (j - 1) (omega arith) (omega arith),
    )

-- from a start to itself there is none
pub length_none : (l : Limits) (ws : List ℕ) (i : ℕ) → 1 ≤ i → line_length l ws i i ≡ 0
unfolding line_length
length_none l ws i h = omega (arith, line_scale ws i i h (omega arith))
