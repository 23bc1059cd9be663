-- Gaps and lengths read off the sums strip. Assumes nothing but what each law states.
use Rattle.std.proofs.Common.{◌≡◌, ℕ, suc, ◌+◌, ◌-◌, ◌^◌, ◌≤◌, ◌<◌, List, length, get_or, arith}
use Rattle.paper.specs.declared.PageLimits.{PageLimits}
use Rattle.paper.specs.Allowed.{page_limits_hold}
use Rattle.paper.specs.Index.{gap, item}
use Rattle.paper_theory.specs.Ranges.{page_ranges}
use Rattle.paper_theory.specs.Scale.{up_to, up_to_suc, up_to_bound, gap_scale}
use Rattle.strips.specs.Words.{words_of, Holds, holds_length, holds_few, holds_entry}
use Rattle.pointer.specs.declared.start.Start.{Start}
use Rattle.pointer.specs.Asks.{text_of, PageTo}

-- what a start adds to its sum fits
pub start_small : (l : PageLimits) {S : List ℕ} → Holds (page_limits_hold l) 0 S → (i : ℕ) → i < length S →
    (get_or S i 0 + l.lmin < 2 ^ 25) × (get_or S i 0 + l.lmax < 2 ^ 25)
start_small l {S} held i low =
    let limits = page_ranges l held.passed.limits in
    let read = holds_entry held i (omega (arith, holds_length held)) in
    let bound = up_to_bound 0 (words_of S) held.passed.lengths i (omega (arith, holds_length held)) in
    (omega (arith, limits, holds_few held), omega (arith, limits, holds_few held))

module _ (s : Start) where
  pub start_size : length s.sums.now ≡ length (text_of s) + 1
  start_size = holds_length s.held

  pub start_few : length s.sums.now ≤ 4097
  start_few = holds_few s.held

  -- ---- "The best of start i counts w_i for i from 1 to n, and nothing for 0"
  own_sum : (k : ℕ) → suc k ≡ s.i → up_to (text_of s) s.i ≡ up_to (text_of s) (s.i - 1) + item (text_of s) s.i
  unfolding item
  own_sum k e =
      let low = s.low in
      let f : s.i - 1 ≡ k = omega arith in
      rw (f, ← e) (up_to_suc (text_of s) k (omega (arith, start_size)))

  pub own_read : ¬ (s.i ≡ 0) → get_or s.sums.now s.i 0 ≡ get_or s.sums.now (s.i - 1) 0 + item (text_of s) s.i
  own_read pos =
      let low = s.low in
      omega (
        arith,
        start_size,
        holds_entry s.held s.i (omega (arith, start_size)),
        holds_entry s.held (s.i - 1) (omega (arith, start_size)),
        own_sum (s.i - 1) (omega arith),
      )

  pub own_first : s.i ≡ 0 → 0 ≡ item (text_of s) s.i
  unfolding item
  own_first e = rw e

  -- ---- a page from the start to r
  pub gap_read : {r : ℕ} → PageTo s r → get_or s.sums.now s.i 0 + gap (text_of s) s.i r ≡ get_or s.sums.now (r - 1) 0
  gap_read {r} page =
      omega (
        arith,
        holds_entry s.held s.i (omega (arith, start_size, page.above, page.within)),
        holds_entry s.held (r - 1) (omega (arith, start_size, page.above, page.within)),
        gap_scale (text_of s) s.i r page.above,
      )
