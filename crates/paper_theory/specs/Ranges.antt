-- 01's "Numbers allowed", with W-202's space and W-205's least last length, as orders. Assumes nothing.
use Rattle.std.specs.Prelude.{◌≤◌, ◌<◌, ◌≡◌, refl, Bool, true, false, ◌&&◌, ◌||◌, T, leb, ltb, eqb}
use Rattle.std.proofs.Common.{sym, eqb-true, leb→le, ltb→lt}
use Rattle.laws.specs.Number.{if, both}
use Rattle.paper.specs.declared.Limits.{Limits}
use Rattle.paper.specs.declared.PageLimits.{PageLimits}
use Rattle.paper.specs.Allowed.{last_holds, limits_hold, page_limits_hold}
use Rattle.paper.specs.Paragraph.{least_last}

-- the limits' ranges, as orders
pub record Ranges (l : Limits) : Type 0 where
  pub lmin_low : 1 ≤ l.lmin
  pub lopt_low : l.lmin ≤ l.lopt
  pub lopt_high : l.lopt ≤ l.lmax
  pub lmax_high : l.lmax ≤ 4095
  pub apart : l.lmin < l.lmax
  pub a_low : 1 ≤ l.a
  pub a_high : l.a ≤ 15
  pub space_high : l.space ≤ 255
  pub last_high : l.lastmin ≤ l.lopt
  pub last_is : least_last l ≡ l.lastmin

-- where the limits hold, the least last length is lastmin under either edition: under edition 1 that is 0
last : (l : Limits) → T (last_holds l) → (l.lastmin ≤ l.lopt) × (least_last l ≡ l.lastmin)
unfolding last_holds least_last
last l t =
    let b = both (leb l.lastmin l.lopt) _ t in
    (leb→le l.lastmin l.lopt b.0, go (eqb l.edition 2) (eqb l.edition 1) (eqb l.lastmin 0) refl b.1)
  where
    go : (two one zero : Bool) → eqb l.lastmin 0 ≡ zero → T (one && zero || two) → if two l.lastmin 0 ≡ l.lastmin
    go true one zero e t = refl
    go false true true e t = sym (eqb-true l.lastmin 0 e)
    go false true false e t = absurd t
    go false false zero e t = absurd t

pub ranges : (l : Limits) → T (limits_hold l) → Ranges l
unfolding limits_hold
ranges l t =
    let b1 = both (leb 1 l.lmin) _ t in
    let b2 = both (leb l.lmin l.lopt) _ b1.1 in
    let b3 = both (leb l.lopt l.lmax) _ b2.1 in
    let b4 = both (leb l.lmax 4095) _ b3.1 in
    let b5 = both (ltb l.lmin l.lmax) _ b4.1 in
    let b6 = both (leb 1 l.a) _ b5.1 in
    let b7 = both (leb l.a 15) _ b6.1 in
    let b8 = both (leb l.space 255) (last_holds l) b7.1 in
    record {
      lmin_low = leb→le 1 l.lmin b1.0;
      lopt_low = leb→le l.lmin l.lopt b2.0;
      lopt_high = leb→le l.lopt l.lmax b3.0;
      lmax_high = leb→le l.lmax 4095 b4.0;
      apart = ltb→lt l.lmin l.lmax b5.0;
      a_low = leb→le 1 l.a b6.0;
      a_high = leb→le l.a 15 b7.0;
      space_high = leb→le l.space 255 b8.0;
      last_high = (last l b8.1).0;
      last_is = (last l b8.1).1;
    }

pub record PageRanges (l : PageLimits) : Type 0 where
  pub apart : l.lmin < l.lmax
  pub lmax_high : l.lmax ≤ 65535

pub page_ranges : (l : PageLimits) → T (page_limits_hold l) → PageRanges l
unfolding page_limits_hold
page_ranges l t =
    let b = both (ltb l.lmin l.lmax) (leb l.lmax 65535) t in
    record { apart = ltb→lt l.lmin l.lmax b.0; lmax_high = leb→le l.lmax 65535 b.1 }
