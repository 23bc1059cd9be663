-- What holds of the members of a list: of every one, of some one, of each two, of each neighbouring three; for lists joined,
-- turned round, and for a part of a strip, from one position up to another. Assumes nothing.
use Rattle.std.specs.Prelude.{ℕ, zero, suc, ◌+◌, ◌-◌, ◌≤◌, ◌<◌, ◌≡◌, refl, ◌⊎◌, Bool, true, false, T, length, get_or, take, set}
use Rattle.std.proofs.Common.{subst, inl, inr, add-one, arith, take-suc, take-suc-set, length-take-le}
use mathlib.Core.List.{List, [], ◌∷◌, ◌++◌, reverse_aux, reverse, reverse-append, reverse-cons, reverse-reverse}
use Rattle.std.proofs.Math.Seq.{slice, slice_empty, slice-cons}
use Rattle.std.proofs.lemmas.List.{drop-append-le}

-- ---- every one
abbrev pub Every : {A : Type 0} → (A → Type 0) → List A → Type 0
Every P [] = Unit {0}
Every P (x ∷ xs) = P x × Every P xs

module _ {A : Type 0} where
  pub every_each : (P : A → Type 0) → ((x : A) → P x) → (xs : List A) → Every P xs
  every_each P f [] = tt
  every_each P f (x ∷ xs) = (f x, every_each P f xs)

  -- of a list that stands where a test holds
  pub every_if : (P : A → Type 0) (b : Bool) (xs : List A) → (T b → Every P xs) → Every P (elim b [ true ↦ xs | false ↦ [] ])
  every_if P true xs h = h tt
  every_if P false xs h = tt

  pub every_map : (P Q : A → Type 0) → ((x : A) → P x → Q x) → (xs : List A) → Every P xs → Every Q xs
  every_map P Q f [] h = tt
  every_map P Q f (x ∷ xs) h = (f x h.0, every_map P Q f xs h.1)

  pub every_map2 : (P Q R : A → Type 0) → ((x : A) → P x → Q x → R x) → (xs : List A) → Every P xs → Every Q xs → Every R xs
  every_map2 P Q R f [] h g = tt
  every_map2 P Q R f (x ∷ xs) h g = (f x h.0 g.0, every_map2 P Q R f xs h.1 g.1)

  pub every_join : (P : A → Type 0) (xs ys : List A) → Every P xs → Every P ys → Every P (xs ++ ys)
  every_join P [] ys h g = g
  every_join P (x ∷ xs) ys h g = (h.0, every_join P xs ys h.1 g)

  pub every_left : (P : A → Type 0) (xs ys : List A) → Every P (xs ++ ys) → Every P xs
  every_left P [] ys h = tt
  every_left P (x ∷ xs) ys h = (h.0, every_left P xs ys h.1)

  pub every_right : (P : A → Type 0) (xs ys : List A) → Every P (xs ++ ys) → Every P ys
  every_right P [] ys h = h
  every_right P (x ∷ xs) ys h = every_right P xs ys h.1

  every_aux : (P : A → Type 0) (xs ys : List A) → Every P xs → Every P ys → Every P (reverse_aux xs ys)
  every_aux P [] ys h g = g
  every_aux P (x ∷ xs) ys h g = every_aux P xs (x ∷ ys) h.1 (h.0, g)

  pub every_reverse : (P : A → Type 0) (xs : List A) → Every P xs → Every P (reverse xs)
  every_reverse P xs h = every_aux P xs [] h tt

-- ---- some one
abbrev pub Any : {A : Type 0} → (A → Type 0) → List A → Type 0
Any P [] = ⊥
Any P (x ∷ xs) = P x ⊎ Any P xs

module _ {A : Type 0} where
  pub any_map : (P Q : A → Type 0) → ((x : A) → P x → Q x) → (xs : List A) → Any P xs → Any Q xs
  any_map P Q f [] h = h
  any_map P Q f (x ∷ xs) (inl h) = inl (f x h)
  any_map P Q f (x ∷ xs) (inr h) = inr (any_map P Q f xs h)

  -- some one has P, and every one has Q: some one has what both give
  pub any_every : (P Q R : A → Type 0) → ((x : A) → P x → Q x → R x) → (xs : List A) → Any P xs → Every Q xs → Any R xs
  any_every P Q R f [] h g = h
  any_every P Q R f (x ∷ xs) (inl h) g = inl (f x h g.0)
  any_every P Q R f (x ∷ xs) (inr h) g = inr (any_every P Q R f xs h g.1)

  -- what some one gives, whichever it is
  pub any_gives : {C : Type 0} (P : A → Type 0) → ((x : A) → P x → C) → (xs : List A) → Any P xs → C
  any_gives P f [] h = absurd h
  any_gives P f (x ∷ xs) (inl h) = f x h
  any_gives P f (x ∷ xs) (inr h) = any_gives P f xs h

  any_aux : (P : A → Type 0) (xs ys : List A) → Any P xs ⊎ Any P ys → Any P (reverse_aux xs ys)
  any_aux P [] ys (inl h) = absurd h
  any_aux P [] ys (inr h) = h
  any_aux P (x ∷ xs) ys (inl (inl h)) = any_aux P xs (x ∷ ys) (inr (inl h))
  any_aux P (x ∷ xs) ys (inl (inr h)) = any_aux P xs (x ∷ ys) (inl h)
  any_aux P (x ∷ xs) ys (inr h) = any_aux P xs (x ∷ ys) (inr (inr h))

  pub any_reverse : (P : A → Type 0) (xs : List A) → Any P xs → Any P (reverse xs)
  any_reverse P xs h = any_aux P xs [] (inl h)

-- ---- each two, the one that stands first first
abbrev pub Pairs : {A : Type 0} → (A → A → Type 0) → List A → Type 0
Pairs R [] = Unit {0}
Pairs R (x ∷ xs) = Every (R x) xs × Pairs R xs

-- the front has the largest index
abbrev pub Falls : List ℕ → Type 0
Falls q = Pairs (λ (a b : ℕ). b < a) q

abbrev pub Rises : List ℕ → Type 0
Rises q = Pairs (λ (a b : ℕ). a < b) q

module _ {A : Type 0} (R : A → A → Type 0) where
  abbrev Back : A → A → Type 0
  Back a b = R b a

  pub pairs_right : (xs ys : List A) → Pairs R (xs ++ ys) → Pairs R ys
  pairs_right [] ys h = h
  pairs_right (x ∷ xs) ys h = pairs_right xs ys h.1

  pairs_aux : (xs ys : List A) → Pairs R xs → Pairs Back ys → Every (λ (a : A). Every (R a) xs) ys → Pairs Back (reverse_aux xs ys)
  pairs_aux [] ys h g across = g
  pairs_aux (x ∷ xs) ys h g across =
      pairs_aux xs (x ∷ ys) h.1
      (every_map (λ (a : A). Every (R a) (x ∷ xs)) (Back x) (λ a e. e.0) ys across, g)
      (h.0, every_map (λ (a : A). Every (R a) (x ∷ xs)) (λ (a : A). Every (R a) xs) (λ a e. e.1) ys across)

  pub pairs_reverse : (xs : List A) → Pairs R xs → Pairs (λ (a b : A). R b a) (reverse xs)
  pairs_reverse xs h = pairs_aux xs [] h tt tt

-- ---- each neighbouring three
abbrev pub Threes : {A : Type 0} → (A → A → A → Type 0) → List A → Type 0
Threes R [] = Unit {0}
Threes R (x ∷ []) = Unit {0}
Threes R (x ∷ y ∷ []) = Unit {0}
Threes R (x ∷ y ∷ z ∷ xs) = R x y z × Threes R (y ∷ z ∷ xs)

-- the three of which one stands before the list and two begin it
abbrev Seam : {A : Type 0} → (A → A → A → Type 0) → List A → List A → Type 0
Seam R [] ys = Unit {0}
Seam R (x ∷ []) ys = Unit {0}
Seam R (x ∷ y ∷ xs) [] = Unit {0}
Seam R (x ∷ y ∷ xs) (z ∷ ys) = R z x y

pub threes_map : {A : Type 0} (R S : A → A → A → Type 0) → ((x y z : A) → R x y z → S x y z) → (xs : List A) → Threes R xs → Threes S xs
threes_map R S f [] h = tt
threes_map R S f (x ∷ []) h = tt
threes_map R S f (x ∷ y ∷ []) h = tt
threes_map R S f (x ∷ y ∷ z ∷ xs) h = (f x y z h.0, threes_map R S f (y ∷ z ∷ xs) h.1)

module _ {A : Type 0} (R : A → A → A → Type 0) where
  abbrev Round : A → A → A → Type 0
  Round a b c = R c b a

  pub threes_tail : (x : A) (xs : List A) → Threes R (x ∷ xs) → Threes R xs
  threes_tail x [] h = tt
  threes_tail x (y ∷ []) h = tt
  threes_tail x (y ∷ z ∷ xs) h = h.1

  seam_next : (x : A) (xs ys : List A) → Threes R (x ∷ xs) → Seam R xs (x ∷ ys)
  seam_next x [] ys h = tt
  seam_next x (y ∷ []) ys h = tt
  seam_next x (y ∷ z ∷ xs) ys h = h.0

  seam_back : (x : A) (xs ys : List A) → Seam R (x ∷ xs) ys → Seam Round (x ∷ ys) xs
  seam_back x xs [] h = tt
  seam_back x [] (z ∷ ys) h = tt
  seam_back x (y ∷ xs) (z ∷ ys) h = h

  threes_more : (x : A) (xs ys : List A) → Threes Round ys → Seam Round ys (x ∷ xs) → Threes Round (x ∷ ys)
  threes_more x xs [] h g = tt
  threes_more x xs (z ∷ []) h g = tt
  threes_more x xs (z ∷ w ∷ ys) h g = (g, h)

  threes_aux : (xs ys : List A) → Threes R xs → Threes Round ys → Seam R xs ys → Seam Round ys xs → Threes Round (reverse_aux xs ys)
  threes_aux [] ys h g s t = g
  threes_aux (x ∷ xs) ys h g s t =
      threes_aux xs (x ∷ ys) (threes_tail x xs h) (threes_more x xs ys g t) (seam_next x xs ys h) (seam_back x xs ys s)

  pub threes_reverse : (xs : List A) → Threes R xs → Threes (λ (a b c : A). R c b a) (reverse xs)
  threes_reverse xs h = threes_aux xs [] h tt (seam_nil xs) tt
    where
      seam_nil : (xs : List A) → Seam R xs []
      seam_nil [] = tt
      seam_nil (x ∷ []) = tt
      seam_nil (x ∷ y ∷ xs) = tt

-- ---- the part of a strip from f up to e
module _ (P : ℕ → Type 0) where
  slice_steps : (d f e : ℕ) (s : List ℕ) → e - f ≡ d → f ≤ e → e ≤ length s → ((a : ℕ) → f ≤ a → a < e → P (get_or s a 0)) →
      Every P (slice f e s)
  slice_steps zero f e s g fe es h = let z : f ≡ e = omega arith in rw (z, slice_empty e s) tt
  slice_steps (suc d) f e s g fe es h =
      rw (slice-cons f e s 0 (omega arith) es)
      (h f (omega arith) (omega arith), slice_steps d (suc f) e s (omega arith) (omega arith) es (λ a p. h a (omega arith)))

  pub every_slice : (f e : ℕ) (s : List ℕ) → f ≤ e → e ≤ length s → ((a : ℕ) → f ≤ a → a < e → P (get_or s a 0)) → Every P (slice f e s)
  every_slice f e s = slice_steps (e - f) f e s refl

  pub slice_every : (f e : ℕ) (s : List ℕ) → e ≤ length s → Every P (slice f e s) → (a : ℕ) → f ≤ a → a < e → P (get_or s a 0)
  slice_every f e s es h a fa ae = go (a - f) f h (omega arith)
    where
      first : (f : ℕ) → f < e → Every P (slice f e s) → P (get_or s f 0) × Every P (slice (suc f) e s)
      first f lt h = rw (slice-cons f e s 0 lt es) at h

      go : (d f : ℕ) → Every P (slice f e s) → a ≡ f + d → P (get_or s a 0)
      go zero f h g = let z : f ≡ a = omega arith in subst (λ (k : ℕ). P (get_or s k 0)) z (first f (omega arith) h).0
      go (suc d) f h g = go d (suc f) (first f (omega arith) h).1 (omega arith)

-- two entries of such a part
pub slice_pairs : (R : ℕ → ℕ → Type 0) (f e : ℕ) (s : List ℕ) → e ≤ length s → Pairs R (slice f e s) →
    (a b : ℕ) → f ≤ a → a < b → b < e → R (get_or s a 0) (get_or s b 0)
slice_pairs R f e s es h a b fa ab be = go (a - f) f h (omega arith)
  where
    first : (f : ℕ) → f < e → Pairs R (slice f e s) → Every (R (get_or s f 0)) (slice (suc f) e s) × Pairs R (slice (suc f) e s)
    first f lt h = rw (slice-cons f e s 0 lt es) at h

    go : (d f : ℕ) → Pairs R (slice f e s) → a ≡ f + d → R (get_or s a 0) (get_or s b 0)
    go zero f h g =
        let z : f ≡ a = omega arith in
        subst (λ (k : ℕ). R (get_or s k 0) (get_or s b 0)) z
        (slice_every (R (get_or s f 0)) (suc f) e s es (first f (omega arith) h).0 b (omega arith) be)
    go (suc d) f h g = go d (suc f) (first f (omega arith) h).1 (omega arith)

-- the last entry of such a part is the first of the part turned round
pub slice_rear : (f r e : ℕ) (s : List ℕ) → r + 1 ≡ e → f ≤ r → e ≤ length s → reverse (slice f e s) ≡ get_or s r 0 ∷ reverse (slice f r s)
slice_rear f r e s g fr es =
    let z : e ≡ suc r = omega arith in
    let held = length-take-le r s (omega arith) in
    rw (z, take-suc s r 0 (omega arith), drop-append-le f (take r s) (get_or s r 0 ∷ []) (omega arith), reverse-append)

-- one more entry behind the part: it comes first in the part turned round
pub slice_push : (f e : ℕ) (s : List ℕ) (a : ℕ) → f ≤ e → e < length s → slice f (e + 1) (set s e a) ≡ reverse (a ∷ reverse (slice f e s))
slice_push f e s a fe es =
    let held = length-take-le e s (omega arith) in
    rw (add-one e, take-suc-set s e a es, drop-append-le f (take e s) (a ∷ []) (omega arith), reverse-cons, reverse-reverse)
