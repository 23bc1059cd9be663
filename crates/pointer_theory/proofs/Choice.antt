-- Demand 3: at every start the pointer is the chosen next wherever it is the chooser, and otherwise the start has no setting.
-- Assumes nothing but what each law states.
use Prim.Native.Nat.{ℕ, zero, suc, ◌+◌, ◌-◌, ◌≤◌, ◌<◌}
use Rattle.std.specs.Prelude.{◌≡◌, true, false, ◌&&◌, List, leb, length}
use Rattle.std.proofs.Math.Path.{refl, ap, sym}
use Rattle.std.proofs.Common.{subst, ◌∙◌, arith, leb→le, le→leb, le-leb}
use Rattle.std.proofs.Math.Logic.{⊎_elim}
use Rattle.std.proofs.Math.Bool.{and-false}
use Rattle.std.proofs.lemmas.Bool.{lt-leb}
use Rattle.laws.specs.Number.{split, both, true_not_false}
use Rattle.laws.specs.Cost.{Cost, none, some, ◌≼◌, has_cost, has_some, has_value, before, before_mono}
use Rattle.laws.specs.Search.{largest}
use Rattle.laws.specs.Setting.{Choice, through}
use Rattle.laws.specs.Chosen.{Next, next_unique}
use Rattle.laws.specs.Pointer.{Cheaper, TakenFirst}
use Rattle.laws.proofs.Pointer.{placed_chosen, cheaper_next, no_next, same_or_not}
use Rattle.paper.specs.declared.PageLimits.{PageLimits}
use Rattle.paper.specs.Index as Index
use Rattle.paper.specs.Index.{gap, page, item, index}
use Rattle.paper.specs.PointerRules.{pages_of, entry_at, Pointing, pointed, linked, at_start, after_starts, pointer_at, chooser}
use Rattle.paper_theory.specs.Cheapest.{index_sums, chosen_index}
use Rattle.pointer_theory.specs.Ready.{taken, gaps_of, LeftFrom, PointerReady, Pointed}
use Rattle.pointer_theory.proofs.Ready.{ready_pointed, ready_at}
use Rattle.pointer_theory.specs.Choice.{Choosing}

-- ---- the chooser
-- "r is the chooser if Gap(i, r) lies in lmin..lmax and r has a setting"
module _ (l : PageLimits) (ws : List ℕ) (i r : ℕ) where
  pub chooser_is : chooser (pages_of l ws) i r ≡ leb l.lmin (gap ws i r) && (leb (gap ws i r) l.lmax && has_cost (Index.best l ws r))
  unfolding pages_of
  chooser_is = refl

  chooser_some : {v : ℕ} → l.lmin ≤ gap ws i r → gap ws i r ≤ l.lmax → Index.best l ws r ≡ some v → chooser (pages_of l ws) i r ≡ true
  chooser_some wide allowed e = chooser_is ∙ rw (le-leb l.lmin (gap ws i r) wide, le-leb (gap ws i r) l.lmax allowed, e)

  chooser_near : gap ws i r < l.lmin → chooser (pages_of l ws) i r ≡ false
  chooser_near near = chooser_is ∙ rw (lt-leb l.lmin (gap ws i r) near)

  pub chooser_none : gap ws i r ≤ l.lmax → Index.best l ws r ≡ none → chooser (pages_of l ws) i r ≡ false
  chooser_none allowed e = chooser_is ∙ rw (le-leb (gap ws i r) l.lmax allowed, e) (and-false (leb l.lmin (gap ws i r)))

-- ---- the pointer
-- a sum is no larger only where the rest is no larger
sum_cancel : (c : ℕ) (a b : Cost) → before ◌+◌ c a ≼ before ◌+◌ c b → a ≼ b
sum_cancel c a none h = tt
sum_cancel c none (some n) h = h
sum_cancel c (some m) (some n) h = omega arith

none_top : (a : Cost) → none ≼ a → a ≡ none
none_top none h = refl
none_top (some n) h = absurd h

module _ (l : PageLimits) (ws : List ℕ) (i r : ℕ) {left : List ℕ} (low : i ≤ length ws) (at : Pointed l ws i left r)
    (own : LeftFrom l ws (suc i) r (entry_at left r)) where
  -- r is taken before every other choice, and is a choice if there is any
  any : (j : ℕ) → Choice (index l ws) i j → TakenFirst (taken l ws) (gaps_of l ws) i r j
  unfolding index page
  any j ch =
      let b = both (leb l.lmin (gap ws i j)) (leb (gap ws i j) l.lmax) ch.admissible in
      placed_chosen own at.stops at.stepped.placed j ch.rises ch.within
      (leb→le l.lmin (gap ws i j) b.0) (leb→le (gap ws i j) l.lmax b.1)

  own_choice : l.lmin ≤ gap ws i r → Choice (index l ws) i r
  unfolding index page
  own_choice wide = record {
    rises = at.stepped.above;
    within = at.stepped.within;
    admissible = rw (le-leb l.lmin (gap ws i r) wide) (le→leb (gap ws i r) l.lmax at.stepped.allowed);
  }

  cheaper_through : (j : ℕ) → Cheaper largest (Index.best l ws) r j → Cheaper largest (through (index l ws) (Index.best l ws) i) r j
  unfolding index
  cheaper_through j b = record {
    low = before_mono ◌+◌ (index_sums l ws) (item ws i) (Index.best l ws r) (Index.best l ws j) b.low;
    strict = λ a h. b.strict a (sum_cancel (item ws i) (Index.best l ws j) (Index.best l ws r) h);
  }

  pointer_next : {v : ℕ} → l.lmin ≤ gap ws i r → Index.best l ws r ≡ some v → Next (index l ws) largest i r
  unfolding Index.best index
  pointer_next wide e =
      cheaper_next (index l ws) i (omega arith) largest r (own_choice wide) (has_some (ap (before ◌+◌ (item ws i)) e))
      (λ j ch ne. cheaper_through j ((any j ch).beats ne))

  -- no page fits: lmin forbids r, or r has no setting
  pointer_near : gap ws i r < l.lmin → Index.best l ws i ≡ none
  unfolding Index.best index
  pointer_near near = no_next (index l ws) i (omega arith) (λ j ch. absurd (omega (arith, (any j ch).wide)))

  pointer_none : Index.best l ws r ≡ none → Index.best l ws i ≡ none
  unfolding Index.best index
  pointer_none e = no_next (index l ws) i (omega arith) (λ j ch. ⊎_elim
      (λ same. ap (Index.best l ws) same ∙ e)
      (λ other. none_top (Index.best l ws j) (subst (λ (c : Cost). c ≼ Index.best l ws j) e ((any j ch).beats other).low))
      (same_or_not j r))

  -- the pointer is the chosen next
  choosing_next : Next (index l ws) largest i r → chooser (pages_of l ws) i r ≡ true → Choosing l ws i r
  unfolding Index.best index
  choosing_next n holds = record {
    exactly = ap has_cost (has_value (Index.best l ws i) n.has) ∙ sym holds;
    chosen = λ e. next_unique n (chosen_index l ws i (omega arith) n.has);
    gives = λ e. sym n.gives;
    nothing = λ e. absurd (true_not_false (sym holds ∙ e));
  }

  choosing_none : Index.best l ws i ≡ none → chooser (pages_of l ws) i r ≡ false → Choosing l ws i r
  choosing_none none_i fails = record {
    exactly = ap has_cost none_i ∙ sym fails;
    chosen = λ e. absurd (true_not_false (sym e ∙ fails));
    gives = λ e. absurd (true_not_false (sym e ∙ fails));
    nothing = λ e. none_i;
  }

  choosing : Choosing l ws i r
  choosing = ⊎_elim
      (λ wide. rest wide (Index.best l ws r) refl)
      (λ near. choosing_none (pointer_near near) (chooser_near l ws i r near))
      (split l.lmin (gap ws i r))
    where
      rest : l.lmin ≤ gap ws i r → (c : Cost) → Index.best l ws r ≡ c → Choosing l ws i r
      rest wide none e = choosing_none (pointer_none e) (chooser_none l ws i r at.stepped.allowed e)
      rest wide (some v) e = choosing_next (pointer_next wide e) (chooser_some l ws i r wide at.stepped.allowed e)

-- ---- all starts
module _ (l : PageLimits) (ws : List ℕ) where
  -- linking leaves the pointer where it is
  start_pointer : (i : ℕ) (s : Pointing) →
      (at_start (pages_of l ws) (length ws) i s).stands.pointer ≡ (pointed (pages_of l ws) i s.left s.pointer).stands
  unfolding at_start linked
  start_pointer zero s = refl
  start_pointer (suc i) s = refl

  -- where start i is ready
  pub ready_choosing : {i : ℕ} {s : Pointing} → i ≤ length ws → PointerReady l ws i s →
      Choosing l ws i (pointed (pages_of l ws) i s.left s.pointer).stands
  ready_choosing {i} {s} low ready =
      let r = (pointed (pages_of l ws) i s.left s.pointer).stands in
      let at = ready_pointed ready in
      choosing l ws i r low at (ready.entries.lefts r at.stepped.above at.stepped.within)

  -- Demand 3.
  pub pointer_chooses : (i : ℕ) → i ≤ length ws → Choosing l ws i (pointer_at l ws i).stands.pointer
  unfolding pointer_at
  pointer_chooses i low =
      rw (start_pointer i (after_starts (pages_of l ws) (length ws) (length ws - i)).stands)
      (ready_choosing low (ready_at l ws (length ws - i) i (omega arith)))
