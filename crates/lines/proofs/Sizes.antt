-- Products that fit. Assumes nothing.
use Prim.Native.Nat.{ℕ, ◌+◌, ◌-◌, ◌*◌, ◌^◌, ◌≤◌, ◌<◌}
use mathlib.Core.Path.{◌≡◌, ◌∙◌}
use mir.Syntax.{w32}
use native.Mathlib.Nat.{mul-le-mul, mul-le-mul_right}
use native.Mathlib.Omega.{arith}
use Rattle.laws.specs.Square.{sqd, sqd_line, sqd_shift}
use Rattle.paper.specs.declared.Limits.{Limits}
use Rattle.paper.specs.Paragraph.{penalty}
use Rattle.paper_theory.specs.Bound.{penalty_bound}
use Rattle.lines.proofs.Signed.{Squaring}
use Rattle.lines.specs.declared.Break.{Break}
use Rattle.lines.specs.Asks.{costliest, Weighing, Three}

-- "the penalty of a line inside the measure stays below 2^28", read by where the line ends; so its square does too, A being at least 1
module _ {l : Limits} {x y : ℕ} (w : Weighing l x y) where
  abbrev length : ℕ
  length = x + l.lopt - y

  begun : y ≤ x + l.lopt
  begun = omega (arith, w.inside.low)

  by_length : sqd length l.lopt ≡ sqd x y
  by_length = sqd_line (x + l.lopt) y l.lopt begun ∙ sqd_shift x y l.lopt

  pub weighed_fits : l.a * sqd x y < 2 ^ 28
  unfolding penalty
  weighed_fits = rw (← by_length) (penalty_bound l w.ranges length (omega (arith, w.inside.high)))

  pub square_fits : sqd x y < 2 ^ 28
  square_fits = omega (arith, mul-le-mul_right (sqd x y) w.ranges.a_low, weighed_fits)

  pub squaring : Squaring w32 x y
  squaring = record {
    left = omega (arith, w.bounded, w.inside.high, w.ranges.lmax_high);
    right = omega (arith, w.bounded);
    square = omega (arith, square_fits);
  }

-- every product of the second test
pub record Fitting (l : Limits) (j k n : Break) : Type 0 where
  pub jk_bn : (k.end - j.end) * n.best ≤ 4095 * costliest
  pub kn_bj : (n.end - k.end) * j.best ≤ 4095 * costliest
  pub jk_jn : (k.end - j.end) * (n.end - j.end) ≤ 4095 * 4095
  pub jk_jn_kn : (k.end - j.end) * (n.end - j.end) * (n.end - k.end) ≤ 4095 * 4095 * 4095
  pub whole : l.a * ((k.end - j.end) * (n.end - j.end) * (n.end - k.end)) ≤ 15 * (4095 * 4095 * 4095)
  pub jn_bk : (n.end - j.end) * k.best ≤ 4095 * costliest

pub fitting : {l : Limits} {j k n : Break} → Three l j k n → Fitting l j k n
fitting {l} {j} {k} {n} t =
    let jk : k.end - j.end ≤ 4095 = omega (arith, t.kn, t.near, t.ranges.lmax_high) in
    let jn : n.end - j.end ≤ 4095 = omega (arith, t.near, t.ranges.lmax_high) in
    let kn : n.end - k.end ≤ 4095 = omega (arith, t.jk, t.near, t.ranges.lmax_high) in
    let bj : j.best ≤ costliest = omega (arith, t.j_break.number) in
    let bk : k.best ≤ costliest = omega (arith, t.k_break.number) in
    let bn : n.best ≤ costliest = omega (arith, t.n_break.number) in
    let two = mul-le-mul jk jn in
    let three = mul-le-mul two kn in
    record {
      jk_bn = mul-le-mul jk bn;
      kn_bj = mul-le-mul kn bj;
      jk_jn = two;
      jk_jn_kn = three;
      whole = mul-le-mul t.ranges.a_high three;
      jn_bk = mul-le-mul jn bk;
    }
