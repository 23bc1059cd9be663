-- What the laws say of a setting that is given and of its starts: all that this crate takes from the theory of paragraphs and of indexes.
-- Assumes nothing but what each law states.
use Rattle.std.specs.Prelude.{ℕ, zero, suc, ◌+◌, ◌^◌, ◌≤◌, ◌<◌, ◌≡◌, refl, false, ◌&&◌, List, [], ◌∷◌, leb, eqb, length, get_or}
use native.Mathlib.Omega.{arith}
use Rattle.laws.specs.Cost.{some}
use Rattle.laws.specs.Setting.{Problem, Choice, Admissible}
use Rattle.paper.specs.declared.Limits.{Limits}
use Rattle.paper.specs.Allowed.{Passed}
use Rattle.paper.specs.Lines.{settings}
use Rattle.paper.specs.Paragraph.{end, line_length, charge, lines, paragraph}
use Rattle.paper.specs.Index.{item, index, boundaries}
use Rattle.paper_theory.specs.Ranges.{ranges}
use Rattle.paper_theory.specs.Scale.{length_holds_lem}
use Rattle.paper_theory.specs.Bound.{admissible_lmin, admissible_lmax, charge_bound, paragraph_bound, index_bound}
use Rattle.paper_theory.specs.Cheapest.{paragraph_cheapest, index_cheapest}
use Rattle.queue_theory.proofs.Paragraph.{at_most_2n}
use Rattle.pointer_theory.proofs.Count.{pointer_count}
use Rattle.job.specs.declared.Asked.{Asked}
use Rattle.job.specs.declared.Asked.TheVariants.{Paragraph as AskedParagraph, Index as AskedIndex}
use Rattle.rows.specs.Rows.{digits}
use Rattle.rows.specs.Digits.{digits_width}
use Rattle.rows.specs.Size.{row_one, row_two}
use Rattle.listing.specs.Listing.{holds, space_in, least, starts, move_count, values, start_row}
use Rattle.listing.specs.Asks.{problem, Segment}
use Rattle.listing.specs.Settings.{SetIs}

-- ---- a line of a paragraph
module _ {l : Limits} {ws : List ℕ} {i j : ℕ} (p : Segment (AskedParagraph l) ws i j) where
  pub line_high : line_length l ws i j ≤ l.lmax
  unfolding problem paragraph settings lines
  line_high = admissible_lmax (lines l ws) i j p.fits

  -- but for a short last line
  pub line_low : l.lmin ≤ l.lopt → (eqb j (end ws) && leb (line_length l ws i j) l.lopt) ≡ false →
      l.lmin ≤ line_length l ws i j
  unfolding problem paragraph settings lines
  line_low = admissible_lmin (lines l ws) i j p.fits

-- ---- a start's row has at most 20 bytes
-- a number that is listed: one of a text, one of its moves
pub four_digits : (x : ℕ) → x < 10 ^ 4 → length (digits x) ≤ 4
four_digits x h = digits_width 4 x h (omega arith)

pub start_size : (asked : Asked) (ws : List ℕ) (i j : ℕ) → Passed (holds asked) (space_in asked) ws → Segment asked ws i j →
    length (start_row asked ws i j) ≤ 20
unfolding holds space_in values
start_size (AskedParagraph l) ws i j passed p =
    let r = ranges l passed.limits in
    omega (
      arith,
      row_two (digits i) (line_length l ws i j) (charge l ws i j),
      four_digits i (omega (arith, p.order, p.within, passed.few)),
      four_digits (line_length l ws i j) (omega (arith, line_high p, r.lmax_high)),
      digits_width 9 (charge l ws i j) (omega (arith, charge_bound l r ws i j (line_high p))) (omega arith),
    )
start_size (AskedIndex l) ws zero j passed p = absurd (omega (arith, p.first))
start_size (AskedIndex l) ws (suc k) j passed p = unfold item in
    omega (
      arith,
      row_one (digits (suc k)) (item ws (suc k)),
      four_digits (suc k) (omega (arith, p.order, p.within, passed.few)),
      four_digits (item ws (suc k)) (omega (arith, (length_holds_lem 0 ws passed.lengths k (omega (arith, p.order, p.within))).1)),
    )

-- ---- a setting that is given
-- each start, with the next one or the end
choices : (p : Problem) (i : ℕ) (js : List ℕ) → Admissible p i js → (k : ℕ) → k ≤ length js →
    Choice p (get_or (i ∷ js) k 0) (get_or (i ∷ js) (suc k) p.end)
choices p i [] h zero g = h
choices p i [] h (suc k) g = absurd (omega arith)
choices p i (j ∷ js) h zero g = h.0
choices p i (j ∷ js) h (suc k) g = choices p j js h.1 k (omega arith)

-- the starts rise, from the first on
rising : (p : Problem) (i : ℕ) (js : List ℕ) → Admissible p i js → (k : ℕ) → k ≤ length js → i + k ≤ get_or (i ∷ js) k 0
rising p i js h zero g = omega arith
rising p i [] h (suc k) g = absurd (omega arith)
rising p i (j ∷ js) h (suc k) g = omega (arith, h.0.rises, rising p j js h.1 k (omega arith))

module _ (asked : Asked) (ws : List ℕ) (ends : (problem asked ws).end ≡ end ws) (i : ℕ) (js : List ℕ)
    (h : Admissible (problem asked ws) i js) where
  segment_at : (k : ℕ) → k ≤ length js → 1 ≤ i + k → Segment asked ws (get_or (i ∷ js) k 0) (get_or (i ∷ js) (suc k) (end ws))
  segment_at k g low =
      let c = choices (problem asked ws) i js h k g in
      let far = rising (problem asked ws) i js h k g in
      rw (← ends) (record { first = omega arith; order = c.rises; within = omega (arith, c.within, ends); fits = c.admissible })

  last_within : i + length js < end ws
  last_within =
      let c = choices (problem asked ws) i js h (length js) (omega arith) in
      omega (arith, c.rises, c.within, rising (problem asked ws) i js h (length js) (omega arith))

pub set_is : (asked : Asked) (ws : List ℕ) → Passed (holds asked) (space_in asked) ws → (total : ℕ) → least asked ws ≡ some total →
    SetIs asked ws (starts asked ws) total
unfolding holds space_in least starts move_count problem paragraph settings lines index
set_is (AskedParagraph l) ws passed total e =
    let r = ranges l passed.limits in
    let right = paragraph_cheapest l ws r.lopt_high passed.words total e in
    let js = right.0 in
    let h = right.3.admissible in
    rw right.1
    (record {
      all = record { each = λ k g. segment_at (AskedParagraph l) ws refl 1 js h k (omega arith) (omega arith) };
      few = omega (arith, last_within (AskedParagraph l) ws refl 1 js h);
      small = paragraph_bound l r ws passed.few 1 total (omega arith) (omega arith) e;
      moves = at_most_2n l ws passed;
    })
set_is (AskedIndex l) ws passed total e =
    let h = (index_cheapest l ws total e).1.admissible in
    record {
      all = record { each = λ k g. segment_at (AskedIndex l) ws refl 0 (boundaries l ws) h (suc k) (omega arith) (omega arith) };
      few = omega (arith, last_within (AskedIndex l) ws refl 0 (boundaries l ws) h);
      small = omega (arith, index_bound l ws passed.lengths passed.few 0 total (omega arith) e);
      moves = pointer_count l ws;
    }
