-- After all starts the left and right entries are those that 01 declares. Assumes nothing but what each law states.
use Rattle.std.specs.Prelude.{ℕ, zero, suc, ◌+◌, ◌-◌, ◌≤◌, ◌<◌, ◌≡◌, List, [], ◌∷◌, ◌++◌, length}
use Rattle.std.proofs.Common.{ap, sym, ◌∙◌, ⊎_elim, arith, length-append, ext_get_or}
use Rattle.std.proofs.Math.Bool.{not}
use Rattle.std.proofs.Math.ListN.{get_or-append}
use Rattle.std.proofs.lemmas.List.{get_or_at}
use Rattle.laws.specs.Number.{split}
use Rattle.laws.specs.Cost.{leq}
use Rattle.laws.specs.Search.{smallest, largest, pick_is, picked_unique}
use Rattle.laws.proofs.Pointer.{left_picked, right_picked}
use Rattle.paper.specs.declared.PageLimits.{PageLimits}
use Rattle.paper.specs.Index as Index
use Rattle.paper.specs.Strips.{entries, left_entry, right_entry}
use Rattle.paper.specs.PointerRules.{pages_of, entry_at, after_starts}
use Rattle.paper_theory.specs.Entries.{length_entries, get_or_entries}
use Rattle.pointer_theory.specs.Ready.{EntriesReady, PointerReady}
use Rattle.pointer_theory.proofs.Ready.{ready_at}

-- ---- what stands where start 0 is ready
module _ (l : PageLimits) (ws : List ℕ) {left right : List ℕ} (ready : EntriesReady l ws 0 left right) where
  abbrev left_of : ℕ → ℕ
  left_of = left_entry (Index.best l ws)

  abbrev right_of : ℕ → ℕ
  right_of = right_entry (Index.best l ws) (length ws)

  -- "In left, the entry for index j from 1 to n+1 is the largest k with 1 ≤ k < j whose best is smaller, or 0 if none"
  left_entry_lem : (j : ℕ) → 1 ≤ j → j ≤ length ws + 1 → entry_at left j ≡ left_of j
  unfolding left_entry
  left_entry_lem j h g =
      picked_unique
      (left_picked (Index.best l ws) (omega arith) (ready.lefts j h g))
      (pick_is largest (λ k. not (leq (Index.best l ws j) (Index.best l ws k))) 1 (j - 1))

  -- "in right, for j from 1 to n, the smallest k > j whose best is not larger"
  right_entry_lem : (j : ℕ) → 1 ≤ j → j ≤ length ws → entry_at right j ≡ right_of j
  unfolding right_entry
  right_entry_lem j h g =
      picked_unique
      (right_picked (Index.best l ws) (ready.rights j h g))
      (pick_is smallest (λ k. leq (Index.best l ws k) (Index.best l ws j)) (j + 1) (length ws + 1 - j))

  left_entries : left ≡ 0 ∷ entries left_of 1 (length ws + 1)
  left_entries = ext_get_or 0 left (0 ∷ es) (omega (arith, ready.left_length, length_entries left_of 1 (length ws + 1))) at
    where
      es : List ℕ
      es = entries left_of 1 (length ws + 1)

      at : (j : ℕ) → j < length left → entry_at left j ≡ entry_at (0 ∷ es) j
      at zero h = ready.left_open 0 (omega arith)
      at (suc j) h =
          let low : j < length ws + 1 = omega (arith, ready.left_length) in
          left_entry_lem (suc j) (omega arith) (omega arith)
          ∙ sym (get_or_entries left_of 1 (length ws + 1) j 0 low ∙ ap left_of (omega arith))

  right_entries : right ≡ 0 ∷ entries right_of 1 (length ws) ++ (0 ∷ [])
  right_entries = ext_get_or 0 right (0 ∷ es ++ (0 ∷ [])) (omega (arith, ready.right_length, size, length-append es (0 ∷ []))) at
    where
      es : List ℕ
      es = entries right_of 1 (length ws)

      size : length es ≡ length ws
      size = length_entries right_of 1 (length ws)

      at : (j : ℕ) → j < length right → entry_at right j ≡ entry_at (0 ∷ es ++ (0 ∷ [])) j
      at zero h = ready.right_open 0 (omega arith)
      at (suc j) h = ⊎_elim
          (λ g. let z : suc j ≡ length ws + 1 = omega (arith, ready.right_length) in
          ap (entry_at right) z ∙ ready.right_end ∙ sym (get_or_at es 0 [] 0 j (omega (arith, size))))
          (λ g. right_entry_lem (suc j) (omega arith) (omega arith)
          ∙ sym (get_or-append es (0 ∷ []) 0 j (omega (arith, size))
          ∙ get_or_entries right_of 1 (length ws) j 0 g ∙ ap right_of (omega arith)))
          (split (length ws) j)

-- ---- after all starts
module _ (l : PageLimits) (ws : List ℕ) where
  all : PointerReady l ws 0 (after_starts (pages_of l ws) (length ws) (length ws + 1)).stands
  all = ready_at l ws (length ws + 1) 0 (omega arith)

  pub left_is : (after_starts (pages_of l ws) (length ws) (length ws + 1)).stands.left
      ≡ 0 ∷ entries (left_entry (Index.best l ws)) 1 (length ws + 1)
  left_is = left_entries l ws all.entries

  pub right_is : (after_starts (pages_of l ws) (length ws) (length ws + 1)).stands.right
      ≡ 0 ∷ entries (right_entry (Index.best l ws) (length ws)) 1 (length ws) ++ (0 ∷ [])
  right_is = right_entries l ws all.entries
