-- What stands before each start of the pointer rules: where the pointer is, and what each left and right entry is; and how Gap grows.
-- Assumes nothing but what each law states.
use Prim.Native.Nat.{ℕ, suc, ◌+◌, ◌-◌, ◌≤◌, ◌<◌}
use Rattle.std.specs.Prelude.{◌≡◌, List}
use Rattle.std.proofs.Common.{⊎_elim}
use native.Mathlib.Omega.{arith}
use Rattle.std.proofs.Math.ListN.{length}
use Rattle.laws.specs.Number.{split}
use Rattle.laws.specs.Search.{largest}
use Rattle.laws.specs.Pointer.{Order, cheaper, IsLeft, IsRight, Gaps, PointerPlaced}
use Rattle.paper.specs.declared.PageLimits.{PageLimits}
use Rattle.paper.specs.Paragraph.{sum}
use Rattle.paper.specs.Index as Index
use Rattle.paper.specs.Index.{gap}
use Rattle.paper.specs.PointerRules.{entry_at, Pointing}
use Rattle.paper_theory.specs.Scale.{up_to_le, gap_scale}

-- ---- gaps
-- a page that is empty: Gap(i, i+1) is 0
pub gap_nought : (ws : List ℕ) (i r : ℕ) → r ≤ suc i → gap ws i r ≡ 0
unfolding gap sum
gap_nought ws i r h = let e : r - i - 1 ≡ 0 = omega arith in rw e

pub gap_far : (ws : List ℕ) (i j k : ℕ) → j ≤ k → gap ws i j ≤ gap ws i k
gap_far ws i j k h =
    ⊎_elim
    (λ g. omega (arith, gap_nought ws i j g))
    (λ g. omega (arith, gap_scale ws i j (omega arith), gap_scale ws i k (omega arith), up_to_le ws (j - 1) (k - 1) (omega arith)))
    (split j (suc i))

pub gap_near : (ws : List ℕ) (h i j : ℕ) → h ≤ i → gap ws i j ≤ gap ws h j
gap_near ws h i j le =
    ⊎_elim
    (λ g. omega (arith, gap_nought ws i j g))
    (λ g. omega (arith, gap_scale ws i j (omega arith), gap_scale ws h j (omega arith), up_to_le ws h i le))
    (split j (suc i))

-- with what the limits allow
abbrev pub gaps_of : PageLimits → List ℕ → Gaps
gaps_of l ws = record { gap = gap ws; lmin = l.lmin; lmax = l.lmax; end = length ws + 1; far = gap_far ws; near = gap_near ws }

-- ---- what stands
-- "Between equal choices the LARGEST next boundary is taken": the order in which indices are taken
abbrev pub taken : PageLimits → List ℕ → Order
taken l ws = cheaper largest (Index.best l ws)

-- m is the left entry of k, of the indices from lo on; and the right entry, up to the end
abbrev pub LeftFrom : PageLimits → List ℕ → ℕ → ℕ → ℕ → Type 0
LeftFrom l ws lo k m = IsLeft (taken l ws) lo k m

abbrev pub RightIn : PageLimits → List ℕ → ℕ → ℕ → Type 0
RightIn l ws k m = IsRight (taken l ws) (length ws + 1) k m

-- the left and right entries before start i, after the starts n to i + 1
pub record EntriesReady (l : PageLimits) (ws : List ℕ) (i : ℕ) (left right : List ℕ) : Type 0 where
  pub left_length : length left ≡ length ws + 2
  pub right_length : length right ≡ length ws + 2
  pub lefts : (k : ℕ) → i < k → k ≤ length ws + 1 → LeftFrom l ws (suc i) k (entry_at left k)
  pub rights : (k : ℕ) → i < k → k ≤ length ws → RightIn l ws k (entry_at right k)
  pub left_open : (k : ℕ) → k ≤ i → entry_at left k ≡ 0
  pub right_open : (k : ℕ) → k ≤ i → entry_at right k ≡ 0
  pub right_end : entry_at right (length ws + 1) ≡ 0

-- what stands before start i
pub record PointerReady (l : PageLimits) (ws : List ℕ) (i : ℕ) (s : Pointing) : Type 0 where
  pub above : i < s.pointer
  pub within : s.pointer ≤ length ws + 1
  pub placed : PointerPlaced (taken l ws) (gaps_of l ws) i s.pointer
  pub entries : EntriesReady l ws i s.left s.right

-- what stands at start i once r has stepped
pub record Stepped (l : PageLimits) (ws : List ℕ) (i r : ℕ) : Type 0 where
  pub above : i < r
  pub within : r ≤ length ws + 1
  pub allowed : gap ws i r ≤ l.lmax
  pub placed : PointerPlaced (taken l ws) (gaps_of l ws) i r

-- what stands at start i once r has stepped and jumped
pub record Pointed (l : PageLimits) (ws : List ℕ) (i : ℕ) (left : List ℕ) (r : ℕ) : Type 0 where
  pub stepped : Stepped l ws i r
  pub stops : 0 < entry_at left r → gap ws i (entry_at left r) < l.lmin
