-- What the functions of the pointer rules ask of their callers, and what each leaves. The strips have an entry for each index: n + 1
-- sums, and n + 2 entries in each other. Assumes nothing.
use Rattle.std.specs.Prelude.{ℕ, suc, ◌+◌, ◌≤◌, ◌<◌, ◌≡◌, List, length, get_or, set, Option, MatchOption}
use Rattle.laws.specs.Cost.{none, some}
use Rattle.paper.specs.declared.Kind.TheVariants.{Jump}
use Rattle.paper.specs.Index as Index
use Rattle.paper.specs.Index.{gap}
use Rattle.paper.specs.Moves.{Taken, move, moved, still}
use Rattle.paper.specs.PointerRules.{Pages, pages_of, entry_at, steps, jumps, pointed, Linked, links, Pointing, linked, at_start}
use Rattle.pointer_theory.specs.Ready.{PointerReady}
use Rattle.pointer_theory.specs.Choice.{Choosing}
use Rattle.strips.specs.Words.{words_of}
use Rattle.pointer.specs.declared.moves.Moves.{Moves}
use Rattle.strips.specs.Running.{Ran}
use Rattle.pointer.specs.declared.Came.{Came}
use Rattle.pointer.specs.declared.start.Start.{Start}
use Rattle.pointer.specs.Taking.{HasRoom, Took}
use Rattle.pointer.specs.Held.{best_at, PageBests}

-- ---- the strips
-- those that a start writes, but for the moves
pub record StartStrips : Type 0 where
  pub best : List ℕ
  pub next : List ℕ
  pub left : List ℕ
  pub right : List ℕ

abbrev pub start_strips : List ℕ → List ℕ → List ℕ → List ℕ → StartStrips
start_strips best next left right = record { best = best; next = next; left = left; right = right }

-- what stands with the pointer at r
abbrev pub pointing : ℕ → StartStrips → Pointing
pointing r t = record { pointer = r; left = t.left; right = t.right }

-- ---- the rules at a start
-- the text whose sums it has
abbrev pub text_of : Start → List ℕ
text_of s = words_of s.sums.now

-- what the rules read
abbrev pub pages_at : Start → Pages
pages_at s = pages_of s.limits (text_of s)

abbrev pub stepping : Start → ℕ → Taken ℕ
stepping s = steps (pages_at s) s.i

abbrev pub jumping : Start → List ℕ → ℕ → Taken ℕ
jumping s left r = jumps (pages_at s) s.i left r r

abbrev pub pointing_from : Start → List ℕ → ℕ → Taken ℕ
pointing_from s = pointed (pages_at s) s.i

abbrev pub linking : Start → List ℕ → List ℕ → Taken Linked
linking s left right = links (pages_at s) s.i right (length (text_of s)) (suc s.i) left

abbrev pub joining : Start → List ℕ → List ℕ → ℕ → Taken Pointing
joining s = linked (pages_at s) (length (text_of s)) s.i

abbrev pub starting : Start → Pointing → Taken Pointing
starting s = at_start (pages_at s) (length (text_of s)) s.i

-- ---- asked
-- a page from the start to r
pub record PageTo (s : Start) (r : ℕ) : Type 0 where
  pub above : s.i < r
  pub within : r ≤ length s.sums.now

-- and room for a rule's moves
pub record StepsAsk (rule : Taken ℕ) (s : Start) (r : ℕ) (m : Moves) : Type 0 where
  pub page : PageTo s r
  pub room : HasRoom rule m

-- left entries that are smaller than their index, and after the start
pub record LeftsFall (s : Start) (left : List ℕ) : Type 0 where
  pub size : length left ≡ length s.sums.now + 1
  pub falls : (k : ℕ) → 0 < entry_at left k → entry_at left k < k
  pub from : (k : ℕ) → s.i < k → k ≤ length s.sums.now → 0 < entry_at left k → s.i < entry_at left k

pub record JumpAsk (s : Start) (left : List ℕ) (r : ℕ) : Type 0 where
  pub page : PageTo s r
  pub lefts : LeftsFall s left

pub record JumpsAsk (rule : Taken ℕ) (s : Start) (left : List ℕ) (r : ℕ) (m : Moves) : Type 0 where
  pub steps : StepsAsk rule s r m
  pub lefts : LeftsFall s left

-- the bests of the text from the start on, its own among them; right entries that are larger than their index; and room for the links
pub record LinksAsk (s : Start) (own : ℕ) (B left right : List ℕ) (m : Moves) : Type 0 where
  pub bests : PageBests s.limits (text_of s) B s.i
  pub is : own ≡ get_or B s.i 0
  pub left_size : length left ≡ length B
  pub right_size : length right ≡ length B
  pub rises : (k : ℕ) → s.i < k → k ≤ length (text_of s) → (k < entry_at right k) × (entry_at right k ≤ length (text_of s) + 1)
  pub room : HasRoom (linking s left right) m

-- what the links ask, for i from 1 on only: at 0 nothing is linked
pub record JoinAsk (s : Start) (own : ℕ) (B left right : List ℕ) (m : Moves) : Type 0 where
  pub links : 1 ≤ s.i → LinksAsk s own B left right m
  pub began : m.taken ≤ length m.strip.now

-- the pointer r that the rules came to, with its best
pub record ChoiceAsk (s : Start) (B : List ℕ) (r : ℕ) : Type 0 where
  pub page : PageTo s r
  pub size : length B ≡ length s.sums.now + 1
  pub is : get_or B r 0 ≡ best_at s.limits (text_of s) r
  pub allowed : gap (text_of s) s.i r ≤ s.limits.lmax
  pub choosing : Choosing s.limits (text_of s) s.i r

pub record PointerSettleAsk (s : Start) (B N : List ℕ) (r : ℕ) : Type 0 where
  pub choice : ChoiceAsk s B r
  pub next_size : length N ≡ length s.sums.now + 1

-- what stands before the start, and room for its moves
pub record PointerStartAsk (s : Start) (r : ℕ) (t : StartStrips) (m : Moves) : Type 0 where
  pub ready : PointerReady s.limits (text_of s) s.i (pointing r t)
  pub bests : PageBests s.limits (text_of s) t.best (suc s.i)
  pub next_size : length t.next ≡ length s.sums.now + 1
  pub room : HasRoom (starting s (pointing r t)) m

-- the same, on a strip that is lent from the present count on
pub record ApplyAsk (s : Start) (r : ℕ) (t : StartStrips) (m : List ℕ) : Type 0 where
  pub ready : PointerReady s.limits (text_of s) s.i (pointing r t)
  pub bests : PageBests s.limits (text_of s) t.best (suc s.i)
  pub next_size : length t.next ≡ length s.sums.now + 1
  pub room : length (starting s (pointing r t)).moves ≤ length m

-- ---- left
-- a jump from r to q, and then those from q on
pub record Jumped (s : Start) (left : List ℕ) (r q : ℕ) : Type 0 where
  pub page : PageTo s q
  pub below : q < r
  pub turn : jumping s left r ≡ moved (move Jump q) (jumping s left q)

-- no jump from r, or one
abbrev pub CanJump : Start → List ℕ → ℕ → Option ℕ → Type 0
CanJump s left r to = MatchOption to (jumping s left r ≡ still r) (Jumped s left r)

-- the linking came to k
pub record LinksCame (s : Start) (B left right : List ℕ) (m₀ : Moves) (k : ℕ) (left' : List ℕ) (m : Moves) : Type 0 where
  pub took : Took (linking s left right) m₀ m (record { reached = k; left = left' })
  pub within : k < length B

-- and the index reached became the right of the start
pub record JoinCame (s : Start) (left right : List ℕ) (m₀ : Moves) (left' right' : List ℕ) (m : Moves) : Type 0 where
  pub took : (r : ℕ) → Took (joining s left right r) m₀ m (record { pointer = r; left = left'; right = right' })

-- the best of the start is v, by r
pub record ChosenBy (s : Start) (r v : ℕ) : Type 0 where
  pub best : Index.best s.limits (text_of s) s.i ≡ some v
  pub next : r ≡ Index.chosen_next s.limits (text_of s) s.i

-- the best of the start, if it has one
abbrev pub Chosen : Start → ℕ → Option ℕ → Type 0
Chosen s r best = MatchOption best (Index.best s.limits (text_of s) s.i ≡ none) (ChosenBy s r)

-- v is the best of the start, and is entered with its chosen next
pub record PointerSettled (s : Start) (B₀ N₀ : List ℕ) (v : ℕ) (B N : List ℕ) : Type 0 where
  pub cost : v ≡ best_at s.limits (text_of s) s.i
  pub best : B ≡ set B₀ s.i v
  pub next : N ≡ set N₀ s.i (Index.chosen_next s.limits (text_of s) s.i)

-- the rules of the start came to a pointer, and its best and its chosen next are entered
pub record PointerStarted (s : Start) (r : ℕ) (t : StartStrips) (m₀ : Moves) (q : ℕ) (u : StartStrips) (m : Moves) : Type 0 where
  pub took : Took (starting s (pointing r t)) m₀ m (pointing q u)
  pub best : u.best ≡ set t.best s.i (best_at s.limits (text_of s) s.i)
  pub next : u.next ≡ set t.next s.i (Index.chosen_next s.limits (text_of s) s.i)

-- the same, on a strip that is lent from the present count on
pub record Applied (s : Start) (r : ℕ) (t : StartStrips) (m₀ : List ℕ) (c : Came) (u : StartStrips) (m : List ℕ) : Type 0 where
  pub ran : Ran (starting s (pointing r t)) 0 m₀ m c.moves (pointing c.at u)
  pub best : u.best ≡ set t.best s.i (best_at s.limits (text_of s) s.i)
  pub next : u.next ≡ set t.next s.i (Index.chosen_next s.limits (text_of s) s.i)
