-- The paragraph on its two scales, which are the sums, moved by the space where a line begins; and demand 3 of it, once over both editions
-- of the last-line rule. Assumes nothing but what each theorem states.
use Rattle.std.specs.Prelude.{ℕ, ◌+◌, ◌-◌, ◌*◌, ◌≤◌, ◌<◌, ◌≡◌, ◌↔◌, List, [], length}
use Rattle.std.proofs.Math.Path.{refl}
use Rattle.std.proofs.Common.{ap, arith}
use Rattle.laws.specs.Cost.{Cost, none, some, before}
use Rattle.laws.specs.Members.{Every}
use Rattle.paper.specs.declared.Limits.{Limits}
use Rattle.paper.specs.Allowed.{ParagraphPassed}
use Rattle.paper.specs.Lines as Lines
use Rattle.paper.specs.Lines.{Inside}
use Rattle.paper.specs.Paragraph.{line, line_length, end, penalty, least_last, lines, best, chosen_next}
use Rattle.paper.specs.QueueRules.{text_of, front_next, taken_best, taken_next, queue_at, queue_moves, after_starts}
use Rattle.paper.specs.Applied.{applied}
use Rattle.paper_theory.specs.Formula.{by_formula, formula_best, formula_next}
use Rattle.paper_theory.specs.Ranges.{Ranges, ranges}
use Rattle.paper_theory.specs.Scale.{up_to, up_to_le, up_to_rise, line_scale, length_scale, length_none}
use Rattle.queue_theory.specs.Scales.{Scaled, Bested}
use Rattle.queue_theory.proofs.Ready.{moves_so_far, stood_before}
use Rattle.queue_theory.proofs.Applied.{start_inside}
use Rattle.queue_theory.proofs.Agree.{formula_same}
use Rattle.queue_theory.proofs.Front as Front
use Rattle.queue_theory.proofs.Short as Short

nothing_joined : (c : Cost) → c ≡ before ◌+◌ 0 c
nothing_joined none = refl
nothing_joined (some v) = ap some (omega arith)

module _ (l : Limits) (ws : List ℕ) (passed : ParagraphPassed l ws) where
  r : Ranges l
  r = ranges l passed.limits

  -- a line ends at the sum of the words before its break, and begins a space after that of the words before its start
  pub scaled : Scaled (text_of l ws)
  unfolding text_of lines penalty
  scaled = record {
    T = λ i. up_to ws (i - 1) + l.space;
    E = λ j. up_to ws (j - 1);
    line = length_scale l ws passed.lengths;
    empty = length_none l ws;
    apart = λ j k h jk ke. line_scale ws j k h jk;
    ends_rise = λ j k h jk ke. omega (arith, up_to_rise l.space ws passed.lengths (j - 1) (k - 1) (omega arith) (omega arith));
    starts_rise = λ i j h ij je. omega (arith, up_to_le ws (i - 1) (j - 1) (omega arith));
    formula = λ x low high. refl;
    positive = r.lmin_low;
  }

  pub bested : Bested (text_of l ws)
  unfolding text_of lines best
  bested = record {
    joined = λ j h je. nothing_joined (Lines.best (lines l ws) j);
    lopt_low = r.lopt_low;
    lopt_high = r.lopt_high;
    last_low = omega (arith, r.last_is, r.last_high);
  }

  pub size : (text_of l ws).lines.end ≡ length ws + 1
  unfolding text_of lines
  size = refl

  -- Demand 3: at most 2n moves.
  pub at_most_2n : length (queue_moves l ws) ≤ 2 * length ws
  unfolding queue_moves
  at_most_2n = moves_so_far scaled (length ws) size (length ws) (omega arith)

  -- ---- W-204. At every start, every length to which the queue rules apply the formula is inside the measure.
  module _ (i : ℕ) (start : 1 ≤ i) (early : i ≤ length ws) where
    pub inside_the_measure : Every (Inside l.lmin l.lmax) (applied l ws i)
    unfolding applied text_of lines
    inside_the_measure =
        start_inside scaled start (after_starts (text_of l ws) (length ws) (length ws - i)).stands
        (stood_before scaled (length ws) size i early)

  -- Any formula that agrees inside the measure gives the same bests and nexts, since an admissible line is inside it or costs nothing; and
  -- so, by the above, the same moves and queues.
  module _ (formula : ℕ → ℕ) (same : (x : ℕ) → Inside l.lmin l.lmax x → formula x ≡ penalty l x) where
    pub same_bests : (i : ℕ) → i ≤ end ws → Lines.best (by_formula formula (lines l ws)) i ≡ best l ws i
    unfolding best lines
    same_bests = formula_best (lines l ws) r.lopt_low formula same

    pub same_nexts : (i : ℕ) → i ≤ length ws → Lines.chosen_next (by_formula formula (lines l ws)) i ≡ chosen_next l ws i
    unfolding chosen_next lines
    same_nexts i h = formula_next (lines l ws) r.lopt_low formula same i (omega arith)

    pub same_moves : (d : ℕ) → d ≤ length ws →
        after_starts (record {
          lines = by_formula formula (lines l ws);
          a = l.a;
          apart = line ws;
          best = Lines.best (by_formula formula (lines l ws));
        }) (length ws) d ≡ after_starts (text_of l ws) (length ws) d
    unfolding text_of lines
    same_moves = formula_same scaled (length ws) size formula same (λ k low high. same_bests k high)

  module _ (i : ℕ) (start : 1 ≤ i) (inside : i ≤ length ws) where
    -- what stands after start i, from front to rear
    abbrev pub standing : List ℕ
    standing = (queue_at (text_of l ws) (length ws) i).stands.queue

    -- Demand 3: what a start takes by the queue rules is its best and its chosen next.
    pub start_takes : (taken_best (text_of l ws) i standing ≡ best l ws i) × (taken_next (text_of l ws) i standing ≡ chosen_next l ws i)
    unfolding text_of lines best chosen_next
    start_takes = Front.start_takes scaled bested (length ws) size i start inside standing refl

    -- W-205: "a start whose remaining words, as one line, are shorter than lastmin has no setting", whatever stands
    pub below_last : line_length l ws i (end ws) < least_last l → (best l ws i ≡ none) × (chosen_next l ws i ≡ 0)
    unfolding text_of lines best chosen_next
    below_last short = (
      Short.short_none scaled bested (length ws) size i start inside short,
      Front.short_next scaled bested (length ws) size i start inside short,
    )

    -- "n+1 if Line(i, n+1) ≤ lopt": that costs nothing, from the least last length on
    pub short_last : least_last l ≤ line_length l ws i (end ws) → line_length l ws i (end ws) ≤ l.lopt →
        (best l ws i ≡ some 0) × (chosen_next l ws i ≡ end ws)
    unfolding text_of lines best chosen_next
    short_last = Front.free_takes scaled bested (length ws) size i start inside

    module _ (long : l.lopt < line_length l ws i (end ws)) where
      -- "otherwise the front is the chooser": 0 where none stands
      pub front_is_next : front_next standing ≡ chosen_next l ws i
      unfolding text_of lines chosen_next
      front_is_next = (Front.front_chooses scaled bested (length ws) size i start inside long standing refl).1

      -- "with an empty queue there is no setting"
      pub empty_exactly : (standing ≡ []) ↔ (best l ws i ≡ none)
      unfolding text_of lines best
      empty_exactly = Front.empty_exactly scaled bested (length ws) size i start inside long
