-- The pointer rules keep what stands before each start: where the pointer is, and what each left and right entry is. Assumes nothing
-- but what each law states.
use Prim.Native.Nat.{ℕ, zero, suc, ◌+◌, ◌-◌, ◌≤◌, ◌<◌}
use Rattle.std.specs.Prelude.{◌≡◌, refl, true, false, List, set, replicate}
use Rattle.std.proofs.Common.{subst, ◌∙◌, ⊎_elim, length-set, get_or-set_same}
use native.Mathlib.Omega.{arith}
use Rattle.std.proofs.Math.Dec.{leb-zero}
use Rattle.std.proofs.Math.ListN.{length, get_or-eq_default}
use Rattle.std.proofs.lemmas.List.{length-replicate, get_or-replicate}
use Rattle.std.proofs.Math.Seq.{get_or-set_other}
use Rattle.laws.specs.Number.{split}
use Rattle.laws.specs.Cost.{Cost, none, some, leq}
use Rattle.laws.specs.Search.{largest}
use Rattle.laws.specs.Table as Table
use Rattle.laws.proofs.Pointer.{not_larger, larger, left_first, linking_first, linking_more, linked_left, linked_right, placed_first}
use Rattle.laws.proofs.Pointer.{placed_step, placed_jump, placed_next}
use Rattle.laws.specs.Pointer.{Linking, PointerPlaced}
use Rattle.paper.specs.declared.PageLimits.{PageLimits}
use Rattle.paper.specs.Index as Index
use Rattle.paper.specs.Index.{gap, index}
use Rattle.paper.specs.PointerRules.{pages_of, entry_at, steps, jumps, Linked, links, Pointing, pointed, linked, at_start, after_starts}
use Rattle.pointer_theory.proofs.Turns.{steps_by, jumps_by, links_by, links_early}
use Rattle.pointer_theory.specs.Ready.{gap_nought, gap_far, gaps_of, taken, LeftFrom, RightIn, EntriesReady, PointerReady, Stepped, Pointed}
use Rattle.pointer_theory.proofs.Falls.{ready_falls}

-- ---- "The pointer r begins at n+1 [..] Step r to r-1 while [..] Jump r to its left entry while [..]"
module _ (l : PageLimits) (ws : List ℕ) (i : ℕ) where
  -- A step stays above the start: Gap(i, i+1) is 0.
  pub step_above : (r : ℕ) → i < r → l.lmax < gap ws i r → i < r - 1
  step_above r h over = ⊎_elim (λ g. absurd (omega (arith, gap_nought ws i r g))) (λ g. omega arith) (split r (suc i))

  steps_stepped : (r : ℕ) → i < r → r ≤ length ws + 1 → PointerPlaced (taken l ws) (gaps_of l ws) i r →
      Stepped l ws i (steps (pages_of l ws) i r).stands
  unfolding pages_of
  steps_stepped =
      steps_by (pages_of l ws) i
      (λ r t. i < r → r ≤ length ws + 1 → PointerPlaced (taken l ws) (gaps_of l ws) i r → Stepped l ws i t.stands)
      (λ r h above within at. record { above = above; within = within; allowed = h (omega arith); placed = at })
      (λ r t h rest above within at. rest (omega (arith, step_above (suc r) above h)) (omega arith) (placed_step h))

  module _ (left : List ℕ) (falls : (k : ℕ) → 0 < entry_at left k → entry_at left k < k)
      (lefts : (k : ℕ) → i < k → k ≤ length ws + 1 → LeftFrom l ws (suc i) k (entry_at left k)) where
    jumped : (r : ℕ) → 0 < entry_at left r → l.lmin ≤ gap ws i (entry_at left r) → Stepped l ws i r → Stepped l ws i (entry_at left r)
    jumped r entry far s =
        let own = lefts r s.above s.within in
        record {
          above = own.from entry;
          within = omega (arith, s.within, own.below);
          allowed = omega (arith, s.allowed, gap_far ws i (entry_at left r) r (omega (arith, own.below)));
          placed = placed_jump own entry far s.placed;
        }

    jumps_pointed : (r : ℕ) → Stepped l ws i r → Pointed l ws i left (jumps (pages_of l ws) i left r r).stands
    unfolding pages_of
    jumps_pointed =
        jumps_by (pages_of l ws) i left falls (λ r t. Stepped l ws i r → Pointed l ws i left t.stands)
        (λ r f s. record { stepped = s; stops = f })
        (λ r t entry far rest s. rest (jumped r entry far s))

-- ---- "from k = i+1, while best k > best i, Link k [..]; the k reached becomes the right of i"
-- "The best of n+1 is 0": the linking ends there.
pub best_last : (l : PageLimits) (ws : List ℕ) → Index.best l ws (length ws + 1) ≡ some 0
unfolding Index.best index
best_last l ws = Table.best_end (index l ws)

pub links_end : (l : PageLimits) (ws : List ℕ) (i : ℕ) → leq (Index.best l ws (length ws + 1)) (Index.best l ws i) ≡ true
links_end l ws i = rw (best_last l ws) (go (Index.best l ws i))
  where
    go : (c : Cost) → leq (some 0) c ≡ true
    go none = refl
    go (some v) = leb-zero v

-- what the linking of start i leaves: the right of i, and the left entries
record Relinked (l : PageLimits) (ws : List ℕ) (i : ℕ) (left : List ℕ) (s : Linked) : Type 0 where
  right : RightIn l ws i s.reached
  lefts : (k : ℕ) → i < k → k ≤ length ws + 1 → LeftFrom l ws i k (entry_at s.left k)
  size : length s.left ≡ length left
  kept : (k : ℕ) → k ≤ i → entry_at s.left k ≡ entry_at left k

module _ (l : PageLimits) (ws : List ℕ) (i : ℕ) (right : List ℕ)
    (rights : (k : ℕ) → i < k → k ≤ length ws → RightIn l ws k (entry_at right k)) where
  pub rises : (k : ℕ) → i < k → k ≤ length ws → (k < entry_at right k) × (entry_at right k ≤ length ws + 1)
  rises k h g = let r = rights k h g in (r.above, r.within)

  -- Link k: the linking goes on at the right of k.
  pub link_on : (k : ℕ) (left : List ℕ) → length left ≡ length ws + 2 → Linking (taken l ws) (length ws + 1) i k (entry_at left) →
      leq (Index.best l ws k) (Index.best l ws i) ≡ false →
      Linking (taken l ws) (length ws + 1) i (entry_at right k) (entry_at (set left k i))
  unfolding pages_of
  link_on k left size at h =
      linking_more at
      (larger largest (Index.best l ws) k i h)
      (rights k at.above (links_early (pages_of l ws) i right (length ws) (links_end l ws i) rises k at.within h))
      (get_or-set_same left k i 0 (omega (arith, at.within)))
      (λ j ne. get_or-set_other left k j i 0 ne)

  relinked_stop : (k : ℕ) (left : List ℕ) → leq (Index.best l ws k) (Index.best l ws i) ≡ true →
      Linking (taken l ws) (length ws + 1) i k (entry_at left) → Relinked l ws i left (record { reached = k; left = left })
  relinked_stop k left h at =
      let beats = not_larger (Index.best l ws) k i at.above h in
      record { right = linked_right at beats; lefts = linked_left at beats; size = refl; kept = λ j g. refl }

  relinked_more : (k : ℕ) (left : List ℕ) (s : Linked) → i < k → Relinked l ws i (set left k i) s → Relinked l ws i left s
  relinked_more k left s above next = record {
    right = next.right;
    lefts = next.lefts;
    size = next.size ∙ length-set left k i;
    kept = λ j g. next.kept j g ∙ get_or-set_other left k j i 0 (omega arith);
  }

  -- The linking of start i, from k = i + 1 on.
  links_relinked : (left : List ℕ) → length left ≡ length ws + 2 → i ≤ length ws →
      ((k : ℕ) → i < k → k ≤ length ws + 1 → LeftFrom l ws (suc i) k (entry_at left k)) →
      Relinked l ws i left (links (pages_of l ws) i right (length ws) (suc i) left).stands
  unfolding pages_of
  links_relinked left size low lefts =
      links_by (pages_of l ws) i right (length ws) (links_end l ws i) rises
      (λ k left t. length left ≡ length ws + 2 → Linking (taken l ws) (length ws + 1) i k (entry_at left) → Relinked l ws i left t.stands)
      (λ k left above within e size at. relinked_stop k left e at)
      (λ k left t above early e rest size at.
      relinked_more k left t.stands above (rest (length-set left k i ∙ size) (link_on k left size at e)))
      left low size (linking_first (omega arith) lefts)

-- The entries of start i are made, and before them those of the later starts: the next start's are ready.
module _ (l : PageLimits) (ws : List ℕ) (i : ℕ) {left right : List ℕ} (e : EntriesReady l ws (suc i) left right)
    (low : suc i ≤ length ws) where
  abbrev done : Linked
  done = (links (pages_of l ws) (suc i) right (length ws) (suc (suc i)) left).stands

  relinked : Relinked l ws (suc i) left done
  relinked = links_relinked l ws (suc i) right e.rights left e.left_length low e.lefts

  -- the left entry of the start, which is the first index, and the right entry
  own_left : (k : ℕ) → k ≡ suc i → LeftFrom l ws (suc i) k (entry_at done.left k)
  own_left k z =
      rw (z, relinked.kept (suc i) (omega arith), e.left_open (suc i) (omega arith)) (left_first (omega arith))

  own_right : (k : ℕ) → k ≡ suc i → RightIn l ws k (entry_at (set right (suc i) done.reached) k)
  own_right k z = rw (z, get_or-set_same right (suc i) done.reached 0 (omega (arith, e.right_length))) relinked.right

  other_right : (k : ℕ) → ¬ (k ≡ suc i) → entry_at (set right (suc i) done.reached) k ≡ entry_at right k
  other_right k ne = get_or-set_other right (suc i) k done.reached 0 ne

  entries_next : EntriesReady l ws i done.left (set right (suc i) done.reached)
  entries_next = record {
    left_length = relinked.size ∙ e.left_length;
    right_length = length-set right (suc i) done.reached ∙ e.right_length;
    lefts = λ k g h. ⊎_elim (λ f. own_left k (omega arith)) (λ f. relinked.lefts k f h) (split k (suc i));
    rights = λ k g h. ⊎_elim
        (λ f. own_right k (omega arith))
        (λ f. rw (other_right k (omega arith)) (e.rights k f h))
        (split k (suc i));
    left_open = λ k h. relinked.kept k (omega arith) ∙ e.left_open k (omega arith);
    right_open = λ k h. other_right k (omega arith) ∙ e.right_open k (omega arith);
    right_end = other_right (length ws + 1) (omega arith) ∙ e.right_end;
  }

-- ---- all starts
noughts : (n k : ℕ) → entry_at (replicate n 0) k ≡ 0
noughts n k =
    ⊎_elim
    (λ h. get_or-eq_default (replicate n 0) 0 {n = k} (omega (arith, length-replicate {A = ℕ} n 0)))
    (λ h. get_or-replicate n k 0 0 h)
    (split n k)

module _ {l : PageLimits} {ws : List ℕ} {i : ℕ} {s : Pointing} (ready : PointerReady l ws i s) where
  -- a right entry is larger than its index, up to the end
  pub ready_rises : (k : ℕ) → i < k → k ≤ length ws → (k < entry_at s.right k) × (entry_at s.right k ≤ length ws + 1)
  ready_rises = rises l ws i s.right ready.entries.rights

  pub ready_pointed : Pointed l ws i s.left (pointed (pages_of l ws) i s.left s.pointer).stands
  unfolding pointed
  ready_pointed =
      jumps_pointed l ws i s.left (ready_falls ready) ready.entries.lefts (steps (pages_of l ws) i s.pointer).stands
      (steps_stepped l ws i s.pointer ready.above ready.within ready.placed)

-- Start i has nothing to link, at 0, or links; then the next start is ready.
ready_linked : (l : PageLimits) (ws : List ℕ) (i r : ℕ) {left right : List ℕ} → i ≤ length ws → EntriesReady l ws i left right →
    Pointed l ws i left r → PointerReady l ws (i - 1) (linked (pages_of l ws) (length ws) i left right r).stands
unfolding linked
ready_linked l ws zero r low entries at =
    record { above = at.stepped.above; within = at.stepped.within; placed = at.stepped.placed; entries = entries }
ready_linked l ws (suc i) r low entries at =
    let less : suc i - 1 ≡ i = omega arith in
    rw less
    (record {
      above = omega (arith, at.stepped.above);
      within = at.stepped.within;
      placed = placed_next (omega arith) at.stepped.placed;
      entries = entries_next l ws i entries low;
    })

module _ (l : PageLimits) (ws : List ℕ) where
  ready_next : (i : ℕ) {s : Pointing} → i ≤ length ws → PointerReady l ws i s →
      PointerReady l ws (i - 1) (at_start (pages_of l ws) (length ws) i s).stands
  unfolding at_start
  ready_next i {s} low ready =
      ready_linked l ws i (pointed (pages_of l ws) i s.left s.pointer).stands low ready.entries (ready_pointed ready)

  abbrev zeros : List ℕ
  zeros = replicate (length ws + 2) 0

  ready_first : PointerReady l ws (length ws) (record { pointer = length ws + 1; left = zeros; right = zeros })
  ready_first = record {
    above = omega arith;
    within = omega arith;
    placed = placed_first;
    entries = record {
      left_length = length-replicate {A = ℕ} (length ws + 2) 0;
      right_length = length-replicate {A = ℕ} (length ws + 2) 0;
      lefts = λ k g h. last k (omega arith);
      rights = λ k g h. absurd (omega arith);
      left_open = λ k h. noughts (length ws + 2) k;
      right_open = λ k h. noughts (length ws + 2) k;
      right_end = noughts (length ws + 2) (length ws + 1);
    };
  }
    where
      last : (k : ℕ) → k ≡ suc (length ws) → LeftFrom l ws (suc (length ws)) k (entry_at zeros k)
      last k z = rw (z, noughts (length ws + 2) (suc (length ws))) (left_first (omega arith))

  -- What stands after the first d starts: start n - d is ready. (After the last, what stood before it.)
  pub ready : (d : ℕ) → PointerReady l ws (length ws - d) (after_starts (pages_of l ws) (length ws) d).stands
  unfolding after_starts
  ready zero = let e : length ws - 0 ≡ length ws = omega arith in rw e ready_first
  ready (suc d) =
      let e : length ws - suc d ≡ length ws - d - 1 = omega arith in
      rw e (ready_next (length ws - d) (omega arith) (ready d))

  -- the same, said of start i
  pub ready_at : (d i : ℕ) → length ws - d ≡ i → PointerReady l ws i (after_starts (pages_of l ws) (length ws) d).stands
  ready_at d i e = subst (λ (j : ℕ). PointerReady l ws j (after_starts (pages_of l ws) (length ws) d).stands) e (ready d)
