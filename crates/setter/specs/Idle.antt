-- 01's five idle programs, shut out by what a setter promises at a row of the compositor's table: over the strips of either kind.
-- Assumes nothing.
use Rattle.std.specs.Prelude.{ℕ, ◌≡◌, List, get_or}
use Rattle.std.proofs.Common.{ap, sym, ◌∙◌, arith}
use Rattle.laws.specs.Outcome.{Outcome, Promise, Answers}
use Rattle.paper.specs.declared.Refusal.{Refusal}
use Rattle.paper.specs.Told.{Told, Answer, set_answer, refused_answer, told}

-- Of the strips of a kind, those in which an idle program shows; strips at entry, the outcomes of two rows, and what is answered at the
-- first of them.
pub record ShutOut {S : Type 0} (sums best found : S → List ℕ) (entry : S) (o other : Outcome Answer S)
    (total lines moves : ℕ) : Type 0 where
  -- "one that refuses everything"
  pub refuses_everything : (r : Refusal) (exit : S) → ¬ Promise (Answers told) o (refused_answer r) exit
  -- "one that prints the same breaks every time"
  pub same_breaks : (a b : Answer) (x y : S) → found x ≡ found y → Promise (Answers told) o a x → ¬ Promise (Answers told) other b y
  -- "one that writes nothing"
  pub writes_nothing : (a : Answer) → ¬ Promise (Answers told) o a entry
  -- "one that does the first start's work", that of the last index, "and leaves later starts as they were"
  pub first_start_only : (a : Answer) (exit : S) → get_or (best exit) 0 0 ≡ get_or (best entry) 0 0 → ¬ Promise (Answers told) o a exit
  -- "one that returns an invented number of moves"
  pub invented_moves : (m : ℕ) (exit : S) → ¬ (m ≡ moves) → ¬ Promise (Answers told) o (set_answer total lines m) exit

-- It is enough that a setting is given, that the first entries of sums and best are written, and that the rows have different breaks.
pub shut_out : {S : Type 0} {sums best found : S → List ℕ} {entry : S} {o other : Outcome Answer S} {total lines moves : ℕ} →
    o.answer ≡ set_answer total lines moves → ¬ (get_or (sums entry) 0 0 ≡ get_or (sums o.strips) 0 0) →
    ¬ (get_or (best entry) 0 0 ≡ get_or (best o.strips) 0 0) → ¬ (found o.strips ≡ found other.strips) →
    ShutOut sums best found entry o other total lines moves
unfolding told
shut_out {S} {sums} {best} {found} is written started differ = record {
  refuses_everything = λ r exit p. let e = p.tells.is ∙ is in let z : ◌≡◌ {A = ℕ} 0 1 = cc in omega arith;
  same_breaks = λ a b x y e p q. differ (sym (ap found p.strips) ∙ e ∙ ap found q.strips);
  writes_nothing = λ a p. written (ap (λ (s : S). get_or (sums s) 0 0) p.strips);
  first_start_only = λ a exit e p. started (sym e ∙ ap (λ (s : S). get_or (best s) 0 0) p.strips);
  invented_moves = λ m exit apart p. apart (ap (λ (t : Told). t.moves) (p.tells.tells ∙ ap told is));
}
