-- The penalty asked for alone, case by case. Assumes nothing but what each law states.
use Rattle.std.specs.Prelude.{ℕ, ◌≤◌, ◌<◌, ◌≡◌, true, false}
use Rattle.std.proofs.Math.Bool.{and-false}
use Rattle.std.proofs.Common.{arith}
use borrow.Author.Tests.{le-leb, lt-leb, lt-ltb, le-ltb}
use Rattle.paper.specs.declared.Limits.{Limits}
use Rattle.std.specs.Prelude.{Ok, Some, None, Err}
use Rattle.paper.specs.declared.Refusal.TheVariants.{Limits as BadLimits, Length}
use Rattle.paper.specs.Allowed.{limits_hold, most_alone}
use Rattle.paper.specs.Paragraph.{penalty}
use Rattle.paper.specs.Told.{penalty_alone}
use Rattle.paper_theory.specs.Ranges.{ranges}

module _ (l : Limits) (x : ℕ) where
  pub alone_limits : limits_hold l ≡ false → penalty_alone l x ≡ Err BadLimits
  unfolding penalty_alone
  alone_limits bad = rw bad

  module _ (holds : limits_hold l ≡ true) where
    pub alone_length : most_alone < x → penalty_alone l x ≡ Err (Length 0)
    unfolding penalty_alone
    alone_length long = rw (holds, lt-ltb most_alone x long)

    lmax_low : l.lmax ≤ most_alone
    lmax_low = omega (arith, (ranges l (rw holds tt)).lmax_high)

    pub alone_short : x < l.lmin → penalty_alone l x ≡ Ok None
    unfolding penalty_alone
    alone_short low =
        let r = ranges l (rw holds tt) in
        rw (holds, le-ltb most_alone x (omega (arith, lmax_low, r.apart)), lt-leb l.lmin x low)

    pub alone_long : x ≤ most_alone → l.lmax < x → penalty_alone l x ≡ Ok None
    unfolding penalty_alone
    alone_long asked high = rw (holds, le-ltb most_alone x asked, lt-leb x l.lmax high, and-false)

    pub alone_inside : l.lmin ≤ x → x ≤ l.lmax → penalty_alone l x ≡ Ok (Some (penalty l x))
    unfolding penalty_alone
    alone_inside low high =
        rw (holds, le-ltb most_alone x (omega (arith, lmax_low)), le-leb l.lmin x low, le-leb x l.lmax high)
