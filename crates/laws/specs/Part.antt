-- The part of a strip from one place up to another, and its two ends. Assumes nothing.
use Rattle.std.specs.Prelude.{ℕ, ◌+◌, ◌-◌, ◌≤◌, ◌<◌, ◌≡◌, List, [], ◌∷◌, reverse, length, get_or, take, drop}
use Rattle.std.proofs.Common.{add-one, arith, take-append-drop, drop_of_length-le, drop-drop, length-take-le}
use Rattle.std.proofs.Math.Seq.{slice, slice-cons}
use Rattle.laws.specs.Members.{Pairs, pairs_right, slice_rear}

pub record Part : Type 0 where
  pub strip : List ℕ
  pub from : ℕ
  pub to : ℕ

abbrev pub part : List ℕ → ℕ → ℕ → Part
part s f e = record { strip = s; from = f; to = e }

abbrev pub listed : Part → List ℕ
listed q = slice q.from q.to q.strip

-- what holds of each entry
abbrev pub Each : (ℕ → Type 0) → Part → Type 0
Each P q = (a : ℕ) → q.from ≤ a → a < q.to → P (get_or q.strip a 0)

module _ (s : List ℕ) {f e : ℕ} (fits : e ≤ length s) where
  pub part_front : f < e → slice f e s ≡ get_or s f 0 ∷ slice (f + 1) e s
  part_front h = rw (add-one f) (slice-cons f e s 0 h fits)

  pub part_rear : f < e → reverse (slice f e s) ≡ get_or s (e - 1) 0 ∷ reverse (slice f (e - 1) s)
  part_rear h = slice_rear f (e - 1) e s (omega arith) (omega arith) fits

  pub part_none : e ≤ f → slice f e s ≡ []
  part_none h = drop_of_length-le (take e s) {i = f} (omega (arith, length-take-le e s fits))

-- what holds of each two holds of each two from a later place on
pub part_later : (R : ℕ → ℕ → Type 0) (s : List ℕ) (f g e : ℕ) → f ≤ g → Pairs R (slice f e s) → Pairs R (slice g e s)
part_later R s f g e h pairs =
    let z : f + (g - f) ≡ g = omega arith in
    let rest : drop (g - f) (slice f e s) ≡ slice g e s = rw z at (drop-drop (g - f) f (take e s)) in
    pairs_right R (take (g - f) (slice f e s)) (slice g e s) (rw (← rest, take-append-drop) pairs)
