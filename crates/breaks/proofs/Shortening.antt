-- The starts whose rest, less the space, is shorter than lmin. Below the least last length they have no setting, and the others take the
-- end at no cost. Assumes nothing but what each law states.
use Rattle.std.proofs.Common.{◌≡◌, ap, sym, ◌∙◌, Option, Some, None, ℕ, ◌+◌, ◌-◌, ◌≤◌, ◌<◌, min, List, length, get_or, arith}
use Rattle.paper.specs.declared.Limits.{Limits}
use Rattle.paper.specs.Paragraph.{least_last}
use Rattle.paper.specs.Strips.{best_entry}
use Rattle.queue_theory.proofs.Paragraph.{below_last, short_last}
use Rattle.strips.specs.Words.{words_of}
use Rattle.breaks.specs.declared.Chosen.{Chosen}
use Rattle.breaks.specs.Choosing.{Settles}
use Rattle.breaks.specs.Asks.{rest_at, ShortAsks, ShortDone, Begun}
use Rattle.breaks.proofs.Beginning.{begun_more}
use Rattle.breaks.proofs.Holding.{held_rest, held_rises}

module _ {l : Limits} {S B N : List ℕ} {i : ℕ} (b : Begun l S B N i) where
  -- earlier starts have no shorter rest
  rest_grows : (k : ℕ) → 1 ≤ k → k ≤ i → rest_at l S i ≤ rest_at l S k
  rest_grows k first low =
      let sums = b.done.sums in
      omega (
        arith,
        held_rest sums k first (omega arith),
        held_rest sums i (omega arith) b.low,
        held_rises sums (k - 1) (i - 1) (omega arith) (omega arith),
      )

  -- ---- those below the least last length and below lmin; `low` is the shorter of the two
  module _ {low : ℕ} (is : low ≡ min l.lastmin l.lmin) where
    pub none_asks : ShortAsks l low None i S B N
    unfolding best_entry
    none_asks = record {
      begun = b;
      narrow = omega arith;
      takes = λ k first early short.
          let sums = b.done.sums in
          let below : rest_at l S k < least_last l = omega arith in
          let t = below_last l (words_of S) sums.holds.passed k first (omega arith) below in
          (ap best_entry t.0, t.1);
    }

    -- and then the others below lmin: where the next start has the least last length or lmin, earlier ones do
    pub free_asks : (1 ≤ i → low ≤ rest_at l S i) → ShortAsks l l.lmin (Some (record { cost = 0; next = length S })) i S B N
    unfolding best_entry
    free_asks long = record {
      begun = b;
      narrow = omega arith;
      takes = λ k first early short.
          let sums = b.done.sums in
          let enough : least_last l ≤ rest_at l S k = omega (arith, long (omega arith), rest_grows k first early) in
          let t = short_last l (words_of S) sums.holds.passed k first (omega arith) enough (omega arith) in
          (ap best_entry t.0, t.1 ∙ sym sums.size);
    }

-- ---- the starts that take the same, under way
module _ {l : Limits} {below : ℕ} {t : Option Chosen} {from : ℕ} {S B₀ N₀ B N : List ℕ} {i : ℕ} (a : ShortAsks l below t from S B₀ N₀)
    (b : Begun l S B N i) (first : 1 ≤ i) (low : i ≤ from) where
  pub short_rise : get_or S (i - 1) 0 ≤ get_or S (length S - 1) 0
  short_rise = let sums = b.done.sums in held_rises sums (i - 1) (length S - 1) (omega arith) (omega arith)

  -- one start more
  pub short_more : {B' N' : List ℕ} → get_or S (length S - 1) 0 - get_or S (i - 1) 0 < below + l.space → Settles i t B N B' N' →
      Begun l S B' N' (i - 1)
  short_more short =
      let rest : rest_at l S i < below = omega (arith, held_rest b.done.sums i first b.low) in
      begun_more b first (omega (arith, a.narrow)) (a.takes i first low rest)

  -- the next one is not as short
  pub short_done : below + l.space ≤ get_or S (length S - 1) 0 - get_or S (i - 1) 0 → ShortDone l below from S B N i
  short_done far = record { begun = b; low = low; long = λ first. omega (arith, held_rest b.done.sums i first b.low) }
