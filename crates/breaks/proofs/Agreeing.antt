-- The strips of a paragraph under way hold its text: what the rules read of them is what they read of the words. Assumes nothing but
-- what each law states.
use Rattle.std.proofs.Common.{◌≡◌, refl, ap, sym, subst, ◌∙◌, ⊎_elim, ℕ, ◌+◌, ◌-◌, ◌≤◌, ltb, lt-ltb, le-ltb, List, length, get_or, arith}
use Rattle.laws.specs.Number.{if, split}
use Rattle.laws.specs.Members.{Every, every_each}
use Rattle.paper.specs.declared.Limits.{Limits}
use Rattle.paper.specs.Paragraph.{line_length, end, best, chosen_next, penalty, lines}
use Rattle.paper.specs.QueueRules.{Text, Standing, text_of, taken_best, taken_next, at_start, after_starts, queue_at}
use Rattle.paper.specs.Applied.{applied, front_applied}
use Rattle.paper_theory.specs.Scale.{line_is, length_scale, length_none}
use Rattle.queue_theory.specs.Agree.{Agrees}
use Rattle.queue_theory.proofs.Agree.{at_start_same, taken_same}
use Rattle.queue_theory.proofs.Paragraph.{scaled, size, start_takes}
use Rattle.queue_theory.specs.Ready.{Measured}
use Rattle.queue_theory.proofs.Ready.{stood_before, stood_after}
use Rattle.strips.specs.Costs.{cost_of, entry_back}
use Rattle.strips.specs.Words.{words_of, holds_entry}
use Rattle.lines.specs.Held.{span, text_in}
use Rattle.breaks.specs.Asks.{Done}
use Rattle.breaks.proofs.Holding.{held_best, held_number}

-- the text that the strips hold at start i
abbrev pub text_held : Limits → List ℕ → List ℕ → ℕ → Text
text_held l S B i = text_in l S B (get_or S (i - 1) 0 + l.space)

same_formula : (l : Limits) (xs : List ℕ) → Every (λ (x : ℕ). penalty l x ≡ penalty l x) xs
same_formula l = every_each (λ (x : ℕ). penalty l x ≡ penalty l x) (λ x. refl)

module _ {l : Limits} {S B : List ℕ} {i : ℕ} (d : Done l S B i) (first : 1 ≤ i) where
  abbrev ws : List ℕ
  ws = words_of S

  -- a line from the start
  from : ℕ → ℕ → ℕ
  from a k = if (ltb a k) (get_or S (k - 1) 0 - (get_or S (i - 1) 0 + l.space)) 0

  from_start : (k : ℕ) → i ≤ k → k ≤ end ws → from i k ≡ line_length l ws i k
  unfolding from
  from_start k ik high =
      ⊎_elim
      (λ le. let e : i ≡ k = omega arith in
      subst (λ (z : ℕ). from i z ≡ line_length l ws i z) e (rw (le-ltb i i (omega arith)) (sym (length_none l ws i first))))
      (λ lt. rw (lt-ltb i k lt)
      (omega (
        arith,
        holds_entry d.sums.holds (k - 1) (omega arith),
        holds_entry d.sums.holds (i - 1) (omega arith),
        length_scale l ws d.sums.holds.passed.lengths i k first lt high,
      )))
      (split k i)

  agrees : Agrees (text_of l ws) from (span S) (λ k. cost_of (get_or B (k - 1) 0)) i
  unfolding text_of lines
  agrees = record {
    from_start = from_start;
    between = λ j k ij jk high.
        rw (holds_entry d.sums.holds (k - 1) (omega arith), holds_entry d.sums.holds (j - 1) (omega arith))
        (sym (line_is ws j k (omega arith) jk));
    later = λ k ik high.
        let inside : k ≤ length S = omega arith in
        ap cost_of (held_best d k first ik inside)
        ∙ entry_back (best l ws k) (λ v e. omega (arith, held_number d k v (omega arith) inside e));
  }

  module _ (early : i ≤ length ws) where
    -- the rules of start i on the strips are those on the words
    pub held_rules : (s : Standing) → (after_starts (text_of l ws) (length ws) (length ws - i)).stands ≡ s →
        at_start (text_held l S B i) i s ≡ queue_at (text_of l ws) (length ws) i
    unfolding text_in queue_at text_of lines from applied
    held_rules s e =
        let passed = d.sums.holds.passed in
        subst (λ (z : Standing). at_start (text_held l S B i) i z ≡ queue_at (text_of l ws) (length ws) i) e
        (at_start_same (scaled l ws passed) (length S) (penalty l) (λ j. 0) first agrees
        (after_starts (text_of l ws) (length ws) (length ws - i)).stands
        (stood_before (scaled l ws passed) (length ws) (size l ws passed) i early)
        (same_formula l (applied l ws i)))

    -- and what it takes is its best and its chosen next
    pub held_takes : (q : List ℕ) → (queue_at (text_of l ws) (length ws) i).stands.queue ≡ q →
        (taken_best (text_held l S B i) i q ≡ best l ws i) × (taken_next (text_held l S B i) i q ≡ chosen_next l ws i)
    unfolding text_in text_of lines from
    held_takes q e =
        let passed = d.sums.holds.passed in
        let live = subst (Every (Measured (text_of l ws) i)) e
        (stood_after (scaled l ws passed) (length ws) (size l ws passed) i first early).held.live in
        let same = taken_same (scaled l ws passed) (length S) (penalty l) (λ j. 0) first agrees (omega arith) d.sums.size q live
        (same_formula l (front_applied (text_of l ws) i q)) in
        let takes = start_takes l ws passed i first early in
        (same.0 ∙ rw e at takes.0, same.1 ∙ rw e at takes.1)
