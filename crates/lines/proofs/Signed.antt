-- The square of a signed difference of two unsigned numbers, over the width. Assumes nothing.
use Prim.Native.Nat.{ℕ, zero, suc, ◌+◌, ◌-◌, ◌*◌, ◌^◌, ◌≤◌, ◌<◌}
use mathlib.Core.Path.{◌≡◌, refl, sym, ap, subst, ◌∙◌}
use mathlib.Core.Bool.{Bool, true, false, cond}
use mathlib.Core.Logic.{⊎_elim}
use native.Mathlib.Omega.{arith}
use borrow.Author.Tests.{ltb-true, ltb-false}
use lib.Dec.{T, ltb}
use lib.IntN.{ℤ, pos, negsuc, nat_abs, ◌-ℤ◌, ◌*ℤ◌}
use lib.Signed.{mag, non_neg}
use mir.Syntax.{Width}
use mir.Val.{Fits, SFits, bits, hbits, to_z, of_z}
use mir.Facts.{to_z_pos, to_z-of_z}
use Rattle.laws.specs.Number.{split}
use Rattle.laws.specs.Square.{sqd}

-- how far apart two numbers lie: one of the two differences is 0
abbrev gap : ℕ → ℕ → ℕ
gap x y = (x - y) + (y - x)

gap_square : (x y : ℕ) → gap x y * gap x y ≡ sqd x y
unfolding sqd
gap_square x y =
    ⊎_elim
    (λ (h : x ≤ y). let u : x - y ≡ 0 = omega arith in rw u (omega arith))
    (λ (h : y < x). let u : y - x ≡ 0 = omega arith in rw u (omega arith))
    (split x y)

-- a signed difference and a signed square, by their size alone
difference : (x y : ℕ) → nat_abs (pos x -ℤ pos y) ≡ gap x y
difference x zero = omega arith
difference x (suc y) = go (ltb x (suc y)) refl
  where
    go : (b : Bool) → ltb x (suc y) ≡ b → nat_abs (cond b (negsuc (suc y - suc x)) (pos (x - suc y))) ≡ gap x (suc y)
    go true e = omega (arith, ltb-true x (suc y) e)
    go false e = omega (arith, ltb-false x (suc y) e)

square : (z : ℤ) → z *ℤ z ≡ pos (nat_abs z * nat_abs z)
square (pos n) = refl
square (negsuc n) = refl

mag_below : (z : ℤ) → mag z ≤ nat_abs z
mag_below (pos n) = omega arith
mag_below (negsuc n) = omega arith

-- both numbers, and the square of how far they lie apart, fit the width with a sign
pub record Squaring (w : Width) (x y : ℕ) : Type 0 where
  pub left : x < 2 ^ hbits w
  pub right : y < 2 ^ hbits w
  pub square : sqd x y < 2 ^ hbits w

-- what the machine computes from x and y: a signed number is read from its bits by to_z and written to them by of_z, which keep it where
-- it fits
module _ {w : Width} {x y : ℕ} (q : Squaring w x y) where
  read : to_z w x -ℤ to_z w y ≡ pos x -ℤ pos y
  read = rw (to_z_pos w {n = x} q.left, to_z_pos w {n = y} q.right)

  pub sub_fits : SFits w (to_z w x -ℤ to_z w y)
  sub_fits =
      subst (SFits w) (sym read)
      (record { sfits = omega (arith, mag_below (pos x -ℤ pos y), difference x y, q.left, q.right) })

  abbrev d : ℤ
  d = to_z w (of_z w (to_z w x -ℤ to_z w y))

  squared : d *ℤ d ≡ pos (sqd x y)
  squared =
      ap (λ (z : ℤ). z *ℤ z) (to_z-of_z sub_fits ∙ read) ∙ square (pos x -ℤ pos y) ∙
      ap (λ (n : ℕ). pos (n * n)) (difference x y) ∙ ap pos (gap_square x y)

  pub mul_fits : SFits w (d *ℤ d)
  mul_fits = subst (SFits w) (sym squared) (record { sfits = q.square })

  read_square : to_z w (of_z w (d *ℤ d)) ≡ pos (sqd x y)
  read_square = to_z-of_z mul_fits ∙ squared

  pub cast_fits : {v : Width} → sqd x y < 2 ^ bits v → T (non_neg (to_z w (of_z w (d *ℤ d)))) × Fits v (nat_abs (to_z w (of_z w (d *ℤ d))))
  cast_fits {v} h = subst (λ (z : ℤ). T (non_neg z) × Fits v (nat_abs z)) (sym read_square) (tt, record { fits = h })

  pub cast_is : nat_abs (to_z w (of_z w (d *ℤ d))) ≡ sqd x y
  cast_is = ap nat_abs read_square
