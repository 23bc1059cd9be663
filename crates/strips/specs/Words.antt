-- The text that a sums strip holds. Assumes nothing.
use Rattle.std.specs.Prelude.{ℕ, suc, ◌+◌, ◌-◌, ◌≤◌, ◌<◌, ◌≡◌, Bool, List, length, get_or, take}
use Rattle.std.proofs.Common.{ap, sym, ◌∙◌, arith, ext_get_or}
use Rattle.laws.specs.Strip.{over, over_take}
use Rattle.paper.specs.Allowed.{Passed}
use Rattle.paper_theory.specs.Scale.{up_to, up_to_suc, up_to_le}
use Rattle.paper.specs.Strips.{entries, sums}
use Rattle.strips.specs.Asks.{SumsAsk}
use Rattle.paper_theory.specs.Entries.{length_entries, get_or_entries}

-- the lengths whose sums the strip holds: the differences of neighbours
unfoldable pub words_of : List ℕ → List ℕ
words_of S = entries (λ k. get_or S (suc k) 0 - get_or S k 0) 0 (length S - 1)

-- the strip holds the sums of a text that refusals 1 to 4 pass
pub record Holds (hold : Bool) (space : ℕ) (S : List ℕ) : Type 0 where
  pub passed : Passed hold space (words_of S)
  pub is : S ≡ sums (words_of S)

pub length_sums : (ws : List ℕ) → length (sums ws) ≡ length ws + 1
unfolding sums
length_sums ws = length_entries _ 0 (length ws + 1)

pub sums_size : (S ws : List ℕ) → S ≡ sums ws → length S ≡ length ws + 1
sums_size S ws is = ap length is ∙ length_sums ws

pub get_or_sums : (ws : List ℕ) (k : ℕ) → k ≤ length ws → get_or (sums ws) k 0 ≡ up_to ws k
unfolding sums up_to
get_or_sums ws k h =
    let e : 0 + k ≡ k = omega arith in
    get_or_entries (up_to ws) 0 (length ws + 1) k 0 (omega arith) ∙ rw e

-- the sums at the front of a strip
pub sums_front : (ws s S : List ℕ) → S ≡ over (sums ws) s → take (length ws + 1) S ≡ sums ws
sums_front ws s S e = ap (take (length ws + 1)) e ∙ over_take (sums ws) s (length ws + 1) (length_sums ws)

pub words_of_sums : (ws : List ℕ) → words_of (sums ws) ≡ ws
unfolding words_of
words_of_sums ws =
    ap (entries between 0) (omega (arith, length_sums ws))
    ∙ ext_get_or 0 (entries between 0 (length ws)) ws size (λ k h. at k (omega (arith, size)))
  where
    between : ℕ → ℕ
    between k = get_or (sums ws) (suc k) 0 - get_or (sums ws) k 0

    size : length (entries between 0 (length ws)) ≡ length ws
    size = length_entries between 0 (length ws)

    at : (k : ℕ) → k < length ws → get_or (entries between 0 (length ws)) k 0 ≡ get_or ws k 0
    at k h =
        let e : 0 + k ≡ k = omega arith in
        get_or_entries between 0 (length ws) k 0 h
        ∙ rw e (omega (arith, get_or_sums ws (suc k) h, get_or_sums ws k (omega arith), up_to_suc ws k h))

-- sums that were made of a text hold it
pub holds_sums : {hold : Bool} {space : ℕ} {ws : List ℕ} → Passed hold space ws → Holds hold space (sums ws)
holds_sums {ws = ws} passed = record { passed = rw (words_of_sums ws) passed; is = ap sums (sym (words_of_sums ws)) }

-- a text that refusals 1 to 4 pass may be summed
pub passed_sums : {hold : Bool} {space : ℕ} {ws s : List ℕ} → Passed hold space ws → length ws < length s → SumsAsk ws s
passed_sums {space = space} p room = record { few = p.few; space = space; allowed = p.lengths; room = room }

module _ {hold : Bool} {space : ℕ} {S : List ℕ} (h : Holds hold space S) where
  pub holds_length : length S ≡ length (words_of S) + 1
  holds_length = ap length h.is ∙ length_sums (words_of S)

  -- the last index of a text is 4,097
  pub holds_few : length S ≤ 4097
  holds_few = omega (arith, holds_length, h.passed.few)

  pub holds_entry : (k : ℕ) → k ≤ length (words_of S) → get_or S k 0 ≡ up_to (words_of S) k
  holds_entry k g = ap (λ (s : List ℕ). get_or s k 0) h.is ∙ get_or_sums (words_of S) k g

  pub holds_rising : (a b : ℕ) → a ≤ b → b < length S → get_or S a 0 ≤ get_or S b 0
  holds_rising a b ab bs =
      let size = holds_length in
      omega (arith, holds_entry a (omega arith), holds_entry b (omega arith), up_to_le (words_of S) a b ab)
