-- 01, "Moves", the pointer rules, step by step. A rule gives the moves that it takes and what stands afterwards.
use Rattle.std.specs.Prelude.{ℕ, zero, suc, ◌+◌, ◌-◌, Bool, true, false, ◌&&◌, List, leb, ltb, length, get_or, set, replicate}
use Rattle.laws.specs.Cost.{Cost, leq, has_cost}
use Rattle.paper.specs.declared.PageLimits.{PageLimits}
use Rattle.paper.specs.declared.Kind.TheVariants.{Step, Jump, Link}
use Rattle.paper.specs.declared.Move.{Move}
use Rattle.paper.specs.Index.{gap, best}
use Rattle.paper.specs.Moves.{move, Taken, still, moved, joined}

-- What the rules read: the limits, Gap, and the best of each index.
pub record Pages : Type 0 where
  pub limits : PageLimits
  pub gap : ℕ → ℕ → ℕ
  pub best : ℕ → Cost

unfoldable pub pages_of : PageLimits → List ℕ → Pages
pages_of l ws = record { limits = l; gap = gap ws; best = best l ws }

-- the entry for index k, 0 for none
abbrev pub entry_at : List ℕ → ℕ → ℕ
entry_at s k = get_or s k 0

-- "Step r to r-1 while Gap(i, r) > lmax"
unfoldable pub steps : Pages → ℕ → ℕ → Taken ℕ
steps p i zero = still zero
steps p i (suc r) = elim (ltb p.limits.lmax (p.gap i (suc r))) [ true ↦ moved (move Step r) (steps p i r) | false ↦ still (suc r) ]

-- "Jump r to its left entry while it has one and Gap(i, that entry) ≥ lmin". At most d times: a left entry is smaller than r, so
-- r times are enough.
unfoldable pub jumps : Pages → ℕ → List ℕ → ℕ → ℕ → Taken ℕ
jumps p i left zero r = still r
jumps p i left (suc d) r =
    elim (ltb 0 (entry_at left r) && leb p.limits.lmin (p.gap i (entry_at left r))) [
      | true ↦ moved (move Jump (entry_at left r)) (jumps p i left d (entry_at left r))
      | false ↦ still r
    ]

-- the k reached, with the left entries
pub record Linked : Type 0 where
  pub reached : ℕ
  pub left : List ℕ

-- "while best k > best i, Link k (its left becomes i) and go on at the right of k". At most d times: k rises up to n+1, whose
-- best is 0, so n times are enough.
unfoldable pub links : Pages → ℕ → List ℕ → ℕ → ℕ → List ℕ → Taken Linked
links p i right zero k left = still (record { reached = k; left = left })
links p i right (suc d) k left =
    elim (leq (p.best k) (p.best i)) [
      | false ↦ moved (move Link k) (links p i right d (entry_at right k) (set left k i))
      | true ↦ still (record { reached = k; left = left })
    ]

-- the pointer, with the left and right entries of the indices 0 to n+1
pub record Pointing : Type 0 where
  pub pointer : ℕ
  pub left : List ℕ
  pub right : List ℕ

unfoldable pub pointed : Pages → ℕ → List ℕ → ℕ → Taken ℕ
pointed p i left r = joined (steps p i r) (λ a. jumps p i left a a)

-- "Then, for i ≥ 1 only: from k = i+1 [..] the k reached becomes the right of i."
unfoldable pub linked : Pages → ℕ → ℕ → List ℕ → List ℕ → ℕ → Taken Pointing
linked p n zero left right r = still (record { pointer = r; left = left; right = right })
linked p n (suc i) left right r =
    joined (links p (suc i) right n (suc (suc i)) left)
    (λ s. still (record { pointer = r; left = s.left; right = set right (suc i) s.reached }))

-- ---- all starts
unfoldable pub at_start : Pages → ℕ → ℕ → Pointing → Taken Pointing
at_start p n i s = joined (pointed p i s.left s.pointer) (linked p n i s.left s.right)

-- "The pointer r begins at n+1. At start i, from n down to 0": all moves of the first d starts, and what stands then
unfoldable pub after_starts : Pages → ℕ → ℕ → Taken Pointing
after_starts p n zero = still (record { pointer = n + 1; left = replicate (n + 2) 0; right = replicate (n + 2) 0 })
after_starts p n (suc d) = joined (after_starts p n d) (at_start p n (n - d))

-- start i: its moves, and what stands afterwards
unfoldable pub pointer_at : PageLimits → List ℕ → ℕ → Taken Pointing
pointer_at l ws i = at_start (pages_of l ws) (length ws) i (after_starts (pages_of l ws) (length ws) (length ws - i)).stands

-- the moves of an index
unfoldable pub pointer_moves : PageLimits → List ℕ → List Move
pointer_moves l ws = (after_starts (pages_of l ws) (length ws) (length ws + 1)).moves

-- "r is the chooser if Gap(i, r) lies in lmin..lmax and r has a setting, else i has none."
abbrev pub chooser : Pages → ℕ → ℕ → Bool
chooser p i r = leb p.limits.lmin (p.gap i r) && (leb (p.gap i r) p.limits.lmax && has_cost (p.best r))
