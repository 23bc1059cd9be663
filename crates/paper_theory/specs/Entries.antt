-- Laws of the entries of a strip. Assumes nothing.
use Prim.Native.Nat.{ℕ, zero, suc, ◌+◌, ◌<◌}
use Rattle.std.specs.Prelude.{◌≡◌, length, get_or}
use Rattle.std.proofs.Math.Path.{refl, ap}
use Rattle.std.proofs.Common.{◌∙◌, arith}
use mathlib.Core.List.{List, [], ◌∷◌, ◌++◌}
use Rattle.paper.specs.Strips.{entries}

module _ {A : Type 0} (f : ℕ → A) where
  pub length_entries : (k d : ℕ) → length (entries f k d) ≡ d
  unfolding entries
  length_entries k zero = refl
  length_entries k (suc d) = ap suc (length_entries (suc k) d)

  -- one entry more at the end
  pub entries_more : (k d : ℕ) → entries f k (suc d) ≡ entries f k d ++ (f (k + d) ∷ [])
  unfolding entries
  entries_more k zero = ap (λ (m : ℕ). f m ∷ []) (omega arith)
  entries_more k (suc d) =
      ap (λ (l : List A). f k ∷ l) (entries_more (suc k) d ∙ ap (λ (m : ℕ). entries f (suc k) d ++ (f m ∷ [])) (omega arith))

  pub get_or_entries : (k d i : ℕ) (a : A) → i < d → get_or (entries f k d) i a ≡ f (k + i)
  unfolding entries
  get_or_entries k zero i a h = absurd (omega arith)
  get_or_entries k (suc d) zero a h = ap f (omega arith)
  get_or_entries k (suc d) (suc i) a h = get_or_entries (suc k) d i a (omega arith) ∙ ap f (omega arith)
