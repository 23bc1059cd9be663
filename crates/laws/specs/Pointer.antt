-- What the laws of the pointer rules speak of, over any order in which indices are taken: the order of costs by a tie rule is one, left and
-- right entries, what stands while they are linked, and where the pointer stands. Gap is any measure that grows as its ends part. Assumes
-- nothing.
use Rattle.std.specs.Prelude.{ℕ, suc, ◌≤◌, ◌<◌, ◌⊎◌, ◌≢◌}
use Rattle.std.proofs.Common.{inl, inr, ⊎_elim, arith}
use Rattle.laws.specs.Number.{split}
use Rattle.laws.specs.Cost.{Cost, ◌≼◌, ≼_trans}
use Rattle.laws.specs.Search.{Tie, smallest, largest, Ahead}

-- ---- the order in which indices are taken
-- `Beats j k`: j is taken before k
pub record Order : Type 1 where
  pub Beats : ℕ → ℕ → Type 0
  pub trans : (a b c : ℕ) → Beats a b → Beats b c → Beats a c
  pub asym : (a b : ℕ) → Beats a b → ¬ Beats b a

-- the smaller best first; between equal ones the tie rule
pub record Cheaper (tie : Tie) (b : ℕ → Cost) (j k : ℕ) : Type 0 where
  pub low : b j ≼ b k
  pub strict : Ahead tie k j → ¬ (b k ≼ b j)

pub ahead_total : (tie : Tie) (j k : ℕ) → Ahead tie j k ⊎ Ahead tie k j
ahead_total smallest j k = ⊎_elim (λ h. inl h) (λ h. inr (omega arith)) (split j k)
ahead_total largest j k = ⊎_elim (λ h. inr h) (λ h. inl (omega arith)) (split j k)

ahead_trans : (tie : Tie) (i j k : ℕ) → Ahead tie i j → Ahead tie j k → Ahead tie i k
ahead_trans smallest i j k p q = omega arith
ahead_trans largest i j k p q = omega arith

module _ (tie : Tie) (b : ℕ → Cost) where
  pub cheaper_trans : (i j k : ℕ) → Cheaper tie b i j → Cheaper tie b j k → Cheaper tie b i k
  cheaper_trans i j k p q = record {
    low = ≼_trans (b i) (b j) (b k) p.low q.low;
    strict = λ ki h. ⊎_elim
        (λ ji. p.strict ji (≼_trans (b j) (b k) (b i) q.low h))
        (λ ij. q.strict (ahead_trans tie k i j ki ij) (≼_trans (b k) (b i) (b j) h p.low))
        (ahead_total tie j i);
  }

  pub cheaper_asym : (j k : ℕ) → Cheaper tie b j k → ¬ Cheaper tie b k j
  cheaper_asym j k p q = ⊎_elim (λ kj. p.strict kj q.low) (λ jk. q.strict jk p.low) (ahead_total tie k j)

  abbrev pub cheaper : Order
  cheaper = record { Beats = Cheaper tie b; trans = cheaper_trans; asym = cheaper_asym }

-- ---- entries
-- m is the left entry of k, of the indices from lo on: the largest below k that is taken before k, or 0 if none is
pub record IsLeft (o : Order) (lo k m : ℕ) : Type 0 where
  pub below : m < k
  pub from : 0 < m → lo ≤ m
  pub beats : 0 < m → o.Beats m k
  pub rest : (j : ℕ) → lo ≤ j → m < j → j < k → o.Beats k j

-- m is the right entry of k: the smallest above k, up to the end e, that is taken before k
pub record IsRight (o : Order) (e k m : ℕ) : Type 0 where
  pub above : k < m
  pub within : m ≤ e
  pub beats : o.Beats m k
  pub rest : (j : ℕ) → k < j → j < m → o.Beats k j

-- ---- linking
-- At start i the linking has come to k, the left entries being L: every index passed comes after i and after k; the left
-- entries below k count i already, the others do not yet.
pub record Linking (o : Order) (e i k : ℕ) (L : ℕ → ℕ) : Type 0 where
  pub above : i < k
  pub within : k ≤ e
  pub passed : (j : ℕ) → i < j → j < k → o.Beats i j
  pub lowest : (j : ℕ) → i < j → j < k → o.Beats k j
  pub done : (j : ℕ) → i < j → j < k → IsLeft o i j (L j)
  pub ahead : (j : ℕ) → k ≤ j → j ≤ e → IsLeft o (suc i) j (L j)

-- ---- the pointer
-- Gap grows as its ends part, up to the end; and what the limits allow of it.
pub record Gaps : Type 0 where
  pub gap : ℕ → ℕ → ℕ
  pub lmin : ℕ
  pub lmax : ℕ
  pub end : ℕ
  pub far : (i j k : ℕ) → j ≤ k → gap i j ≤ gap i k
  pub near : (h i j : ℕ) → h ≤ i → gap i j ≤ gap h j

-- At start i the pointer stands at r: r is taken before every index past it that lmax allows; and if there is such an index,
-- lmin allows r.
pub record PointerPlaced (o : Order) (a : Gaps) (i r : ℕ) : Type 0 where
  pub each : (j : ℕ) → r < j → j ≤ a.end → a.gap i j ≤ a.lmax → (a.lmin ≤ a.gap i r) × o.Beats r j

-- What holds at r of an index j: the limits allow r, and r is taken before j.
pub record TakenFirst (o : Order) (a : Gaps) (i r j : ℕ) : Type 0 where
  pub wide : a.lmin ≤ a.gap i r
  pub beats : j ≢ r → o.Beats r j
