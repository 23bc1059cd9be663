-- What the moves of an index are paid from: a Step or a Jump lowers the pointer, and a Link gives a left entry to an index that had none.
-- Assumes nothing but what each law states.
use Prim.Native.Nat.{ℕ, zero, suc, ◌+◌, ◌-◌, ◌*◌, ◌≤◌, ◌<◌}
use Rattle.std.specs.Prelude.{◌≡◌, refl, length, set, replicate}
use Rattle.std.proofs.Common.{ap, ◌∙◌, length-set}
use mathlib.Core.List.{List, [], ◌∷◌}
use native.Mathlib.Omega.{arith}
use Rattle.std.proofs.Math.ListN.{length-append}
use Rattle.laws.specs.Pointer.{Linking}
use Rattle.laws.proofs.Pointer.{linking_first, unlinked as no_entry}
use Rattle.paper.specs.declared.PageLimits.{PageLimits}
use Rattle.paper.specs.PointerRules.{Pages, pages_of, entry_at, steps, jumps, links, Pointing, pointed, linked, at_start, after_starts}
use Rattle.pointer_theory.proofs.Turns.{steps_by, jumps_by, links_by}
use Rattle.pointer_theory.specs.Ready.{taken, EntriesReady, PointerReady}
use Rattle.pointer_theory.proofs.Ready.{rises, links_end, link_on, ready}
use Rattle.pointer_theory.proofs.Falls.{ready_falls}

-- ---- the indices that have no left entry
unfoldable pub unlinked : List ℕ → ℕ
unlinked [] = 0
unlinked (zero ∷ left) = suc (unlinked left)
unlinked (suc m ∷ left) = unlinked left

unlinked_set : (left : List ℕ) (k i : ℕ) → entry_at left k ≡ 0 → k < length left → 1 ≤ i → suc (unlinked (set left k i)) ≡ unlinked left
unfolding unlinked
unlinked_set [] k i e h pos = absurd (omega arith)
unlinked_set (zero ∷ left) zero zero e h pos = absurd (omega arith)
unlinked_set (zero ∷ left) zero (suc i) e h pos = refl
unlinked_set (suc m ∷ left) zero i e h pos = absurd (omega arith)
unlinked_set (zero ∷ left) (suc k) i e h pos = ap suc (unlinked_set left k i e (omega arith) pos)
unlinked_set (suc m ∷ left) (suc k) i e h pos = unlinked_set left k i e (omega arith) pos

unlinked_all : (n : ℕ) → unlinked (replicate n 0) ≡ n
unfolding unlinked
unlinked_all zero = refl
unlinked_all (suc n) = ap suc (unlinked_all n)

-- indices 0 and 1 never have one
unlinked_two : (left : List ℕ) → 2 ≤ length left → entry_at left 0 ≡ 0 → entry_at left 1 ≡ 0 → 2 ≤ unlinked left
unfolding unlinked
unlinked_two [] h e f = absurd (omega arith)
unlinked_two (a ∷ []) h e f = absurd (omega arith)
unlinked_two (zero ∷ zero ∷ left) h e f = omega arith
unlinked_two (zero ∷ suc b ∷ left) h e f = absurd (omega arith)
unlinked_two (suc a ∷ b ∷ left) h e f = absurd (omega arith)

-- ---- each rule
-- a Step takes one from the pointer
steps_count : (p : Pages) (i r : ℕ) → length (steps p i r).moves + (steps p i r).stands ≡ r
steps_count p i = steps_by p i (λ r t. length t.moves + t.stands ≡ r) (λ r h. omega arith) (λ r t h rest. omega arith)

-- a Jump takes at least one
jumps_count : (p : Pages) (i : ℕ) (left : List ℕ) → ((k : ℕ) → 0 < entry_at left k → entry_at left k < k) → (r : ℕ) →
    length (jumps p i left r r).moves + (jumps p i left r r).stands ≤ r
jumps_count p i left falls =
    jumps_by p i left falls (λ r t. length t.moves + t.stands ≤ r) (λ r h. omega arith)
    (λ r t entry far rest. omega (arith, falls r entry))

-- a Link takes one from the indices that have no left entry
links_count : (l : PageLimits) (ws : List ℕ) (i : ℕ) {left right : List ℕ} → EntriesReady l ws i left right → 1 ≤ i → i ≤ length ws →
    length (links (pages_of l ws) i right (length ws) (suc i) left).moves
    + unlinked (links (pages_of l ws) i right (length ws) (suc i) left).stands.left ≡ unlinked left
unfolding pages_of
links_count l ws i {left} {right} e pos low =
    links_by (pages_of l ws) i right (length ws) (links_end l ws i) (rises l ws i right e.rights)
    (λ k left t. length left ≡ length ws + 2 → Linking (taken l ws) (length ws + 1) i k (entry_at left) →
    length t.moves + unlinked t.stands.left ≡ unlinked left)
    (λ k left above within stop size at. omega arith)
    (λ k left t above early more rest size at.
    omega (
      arith,
      rest (length-set left k i ∙ size) (link_on l ws i right e.rights k left size at more),
      unlinked_set left k i (no_entry at) (omega arith) pos,
    ))
    left low e.left_length (linking_first (omega arith) e.lefts)

-- ---- each start
-- What the moves are paid from: the pointer, and the indices that have no left entry.
unfoldable pub potential : Pointing → ℕ
potential s = s.pointer + unlinked s.left

module _ (l : PageLimits) (ws : List ℕ) where
  abbrev p : Pages
  p = pages_of l ws

  abbrev n : ℕ
  n = length ws

  -- three are never spent: the pointer stays above 0, and 0 and 1 are not linked
  pub potential_low : {i : ℕ} {s : Pointing} → PointerReady l ws i s → 3 ≤ potential s
  unfolding potential
  potential_low {i} {s} ready =
      let e = ready.entries in
      omega (arith, ready.above, unlinked_two s.left (omega (arith, e.left_length)) (e.left_open 0 (omega arith)) (at_one i e))
    where
      at_one : {left right : List ℕ} (i : ℕ) → EntriesReady l ws i left right → entry_at left 1 ≡ 0
      at_one zero e = omega (arith, (e.lefts 1 (omega arith) (omega arith)).below)
      at_one (suc i) e = e.left_open 1 (omega arith)

  pointed_count : {i : ℕ} {s : Pointing} → PointerReady l ws i s →
      length (pointed p i s.left s.pointer).moves + (pointed p i s.left s.pointer).stands ≤ s.pointer
  unfolding pointed
  pointed_count {i} {s} ready =
      let a = steps p i s.pointer in
      let b = jumps p i s.left a.stands a.stands in
      omega (
        arith,
        length-append a.moves b.moves,
        steps_count p i s.pointer,
        jumps_count p i s.left (ready_falls ready) a.stands,
      )

  linked_count : (i r : ℕ) {left right : List ℕ} → i ≤ n → EntriesReady l ws i left right →
      length (linked p n i left right r).moves + potential (linked p n i left right r).stands ≡ r + unlinked left
  unfolding linked potential
  linked_count zero r low e = omega arith
  linked_count (suc i) r {left} {right} low e =
      let t = links p (suc i) right n (suc (suc i)) left in
      omega (arith, length-append t.moves [], links_count l ws (suc i) e (omega arith) low)

  -- The moves of a start are paid from what stands.
  start_count : (i : ℕ) {s : Pointing} → i ≤ n → PointerReady l ws i s →
      length (at_start p n i s).moves + potential (at_start p n i s).stands ≤ potential s
  unfolding at_start potential
  start_count i {s} low ready =
      let a = pointed p i s.left s.pointer in
      let b = linked p n i s.left s.right a.stands in
      omega (arith, length-append a.moves b.moves, pointed_count ready, linked_count i a.stands low ready.entries)

  -- ---- all starts
  pub starts_paid : (d : ℕ) → length (after_starts p n d).moves + potential (after_starts p n d).stands ≤ 2 * n + 3
  unfolding after_starts potential
  starts_paid zero = omega (arith, unlinked_all (n + 2))
  starts_paid (suc d) =
      let a = after_starts p n d in
      let b = at_start p n (n - d) a.stands in
      omega (arith, length-append a.moves b.moves, starts_paid d, start_count (n - d) (omega arith) (ready l ws d))
