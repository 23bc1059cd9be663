-- The tests that the rules make on numbers are those of the text that the strips hold. Assumes nothing but what each law states.
use Rattle.std.specs.Prelude.{ℕ, ◌+◌, ◌-◌, ◌*◌, ◌≤◌, ◌<◌, ◌≡◌, List}
use Rattle.std.proofs.Common.{arith}
use borrow.Author.Tests.{lt-ltb, le-ltb}
use Rattle.std.proofs.Math.ListN.{get_or}
use Rattle.laws.specs.Square.{sqd, sqd_line}
use Rattle.laws.proofs.Bridge.{edge_side}
use Rattle.paper.specs.declared.Limits.{Limits}
use Rattle.paper.specs.Paragraph.{penalty}
use Rattle.paper.specs.QueueRules.{F, edge, chord, bridged}
use Rattle.strips.specs.Costs.{value_number}
use Rattle.lines.specs.declared.Measure.{Measure}
use Rattle.lines.specs.Held.{break_in, begins, text_in, cost_at, side_at, bridged_at}
use Rattle.lines.specs.Asks.{Placed, Priced, Three}

module _ (l : Limits) (E B : List ℕ) where
  -- a line to a break after the start
  pub line_in : (x i j : ℕ) → i < j → (text_in l E B x).lines.line i j ≡ get_or E (j - 1) 0 - x
  unfolding text_in
  line_in x i j h = rw (lt-ltb i j h)

  -- and to one that is not
  pub no_line_in : (x i j : ℕ) → j ≤ i → (text_in l E B x).lines.line i j ≡ 0
  unfolding text_in
  no_line_in x i j h = rw (le-ltb i j h)

  -- F of a break after the start, which a line reaches
  pub through_in : {p : Measure} (i j : ℕ) → Placed l p → i < j → p.near ≤ get_or E (j - 1) 0 → Priced (break_in E B j) →
      cost_at l p.goal (break_in E B j) ≡ F (text_in l E B (begins l p)) i j
  unfolding F text_in penalty
  through_in {p} i j placed h reach break =
      rw (
        lt-ltb i j h,
        value_number (get_or B (j - 1) 0) (omega (arith, break.number)),
        sqd_line (get_or E (j - 1) 0) (begins l p) l.lopt (omega (arith, placed.near)),
        ← placed.goal,
      )

  -- "bridged" of three breaks that have settings
  pub bridged_in : (x j k n : ℕ) → Three l (break_in E B j) (break_in E B k) (break_in E B n) →
      bridged_at l (break_in E B j) (break_in E B k) (break_in E B n) ≡ bridged (text_in l E B x) j k n
  unfolding edge chord text_in penalty
  bridged_in x j k n t =
      rw (
        value_number (get_or B (j - 1) 0) (omega (arith, t.j_break.number)),
        value_number (get_or B (k - 1) 0) (omega (arith, t.k_break.number)),
        value_number (get_or B (n - 1) 0) (omega (arith, t.n_break.number)),
        side j (omega (arith, t.jk, t.kn)) (omega (arith, t.near)),
        side k t.kn (omega (arith, t.jk, t.near)),
      )
    where
      side : (b : ℕ) → get_or E (b - 1) 0 ≤ get_or E (n - 1) 0 → get_or E (n - 1) 0 - get_or E (b - 1) 0 ≤ l.lmax →
          get_or B (b - 1) 0 + l.a * sqd (l.lmax - (get_or E (n - 1) 0 - get_or E (b - 1) 0)) l.lopt ≡
          side_at l (break_in E B n) (break_in E B b)
      side b = edge_side l.lmax l.lopt l.a (get_or B (b - 1) 0) (get_or E (b - 1) 0) (get_or E (n - 1) 0)
