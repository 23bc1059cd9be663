-- A strip is a list that the caller lends. What is written is written at its front, or from a place on, and the rest stays as it
-- was; a part may be lent on from the middle and comes back. Over entries of any type. Assumes nothing.
use Rattle.std.specs.Prelude.{◌≡◌, ℕ, ◌+◌, ◌-◌, ◌≤◌, ◌<◌, get_or, set}
use Rattle.std.proofs.Math.Path.{refl, ap, sym}
use Rattle.std.proofs.Common.{◌∙◌, add-one, length-drop, take-append-drop, drop_of_length-le, take_all, get_or-append-add}
use mathlib.Core.List.{List, [], ◌∷◌, ◌++◌, append_assoc}
use borrow.Rule.Slice.PartMut.{put_mid}
use native.Mathlib.Omega.{arith}
use Rattle.std.proofs.Math.ListN.{length, take, drop, length-append, get_or-append}
use Rattle.std.proofs.Math.Seq.{drop-cons, set-append_seam, take_at, drop-drop, drop-append-add, length-take-le, get_or-drop}

-- xs at the front of the strip s, which keeps what stands past them
unfoldable pub over : {A : Type 0} → List A → List A → List A
over xs s = xs ++ drop (length xs) s

-- xs from place c of the strip s on, which keeps what stands before and past them
unfoldable pub onward : {A : Type 0} → ℕ → List A → List A → List A
onward c xs s = over (take c s ++ xs) s

pub append_nil : {A : Type 0} (l : List A) → l ++ [] ≡ l
append_nil [] = refl
append_nil (x ∷ l) = ap (λ (m : List _). x ∷ m) (append_nil l)

module _ {A : Type 0} where
  pub length_over : (xs s : List A) → length xs ≤ length s → length (over xs s) ≡ length s
  unfolding over
  length_over xs s h = simp (length-append, length-drop) (omega arith)

  -- an entry of the front
  pub over_front : (xs s : List A) (k : ℕ) (d : A) → k < length xs → get_or (over xs s) k d ≡ get_or xs k d
  unfolding over
  over_front xs s k d h = get_or-append xs (drop (length xs) s) d k h

  -- an entry past the front is as it was
  pub over_past : (xs s : List A) (k : ℕ) (d : A) → length xs ≤ k → get_or (over xs s) k d ≡ get_or s k d
  unfolding over
  over_past xs s k d h =
      let e : length xs + (k - length xs) ≡ k = omega arith in
      rw (← e) (get_or-append-add xs (drop (length xs) s) (k - length xs) d ∙ get_or-drop (length xs) s (k - length xs) d)

  -- the front itself
  pub over_take : (xs s : List A) (k : ℕ) → length xs ≡ k → take k (over xs s) ≡ xs
  unfolding over
  over_take xs s k e = take_at xs (drop (length xs) s) k e

  -- a strip of just the entries written
  pub over_all : (xs s : List A) → length s ≤ length xs → over xs s ≡ xs
  unfolding over
  over_all xs s h = ap (λ (l : List A). xs ++ l) (drop_of_length-le s {i = length xs} h) ∙ append_nil xs

  -- a part of the first k entries was lent and comes back wholly written
  pub over_back : (xs ys s : List A) (k : ℕ) → ys ≡ xs → length xs ≡ k → ys ++ drop k s ≡ over xs s
  unfolding over
  over_back xs ys s k e f = rw (e, f)

  -- nothing written
  pub over_nil : (s : List A) → over [] s ≡ s
  unfolding over
  over_nil s = refl

  -- one more entry is written after those at the front
  pub over_set : (xs s : List A) (a : A) (k : ℕ) → k ≡ length xs → length xs < length s → set (over xs s) k a ≡ over (xs ++ (a ∷ [])) s
  unfolding over
  over_set xs s a k e h =
      rw (e, drop-cons s (length xs) a h, set-append_seam) (rw (length-append, append_assoc, add-one) refl)

  -- ---- from a place on
  -- after xs at the front come ys
  pub over_onward : (xs ys s : List A) (k : ℕ) → k ≡ length xs → onward k ys (over xs s) ≡ over (xs ++ ys) s
  unfolding over onward
  over_onward xs ys s k e =
      rw e
      (simp (take_at xs (drop (length xs) s) (length xs) refl, length-append, drop-append-add, drop-drop))

  pub onward_zero : (xs s : List A) → onward 0 xs s ≡ over xs s
  unfolding onward
  onward_zero xs s = refl

  pub onward_nil : (c : ℕ) (s : List A) → c ≤ length s → onward c [] s ≡ s
  unfolding over onward
  onward_nil c s h = rw (append_nil (take c s), length-take-le c s h) (take-append-drop c s)

  module _ (c : ℕ) (xs s : List A) (h : c ≤ length s) where
    place : length (take c s ++ xs) ≡ c + length xs
    place = length-append (take c s) xs ∙ ap (λ (k : ℕ). k + length xs) (length-take-le c s h)

    pub length_onward : c + length xs ≤ length s → length (onward c xs s) ≡ length s
    unfolding onward
    length_onward room = length_over (take c s ++ xs) s (omega (arith, place))

    pub onward_onward : (ys : List A) (k : ℕ) → k ≡ c + length xs → onward k ys (onward c xs s) ≡ onward c (xs ++ ys) s
    unfolding onward
    onward_onward ys k e =
        over_onward (take c s ++ xs) ys s k (e ∙ sym place) ∙ ap (λ (l : List A). over l s) (append_assoc (take c s) xs ys)

    -- one more entry
    pub onward_set : (a : A) (k : ℕ) → k ≡ c + length xs → k < length s → set (onward c xs s) k a ≡ onward c (xs ++ (a ∷ [])) s
    unfolding onward
    onward_set a k e room =
        over_set (take c s ++ xs) s a k (e ∙ sym place) (omega (arith, place))
        ∙ ap (λ (l : List A). over l s) (append_assoc (take c s) xs (a ∷ []))

  -- ---- a part lent from the middle
  -- what `&mut s[a..]` lends
  pub lent_is : (s : List A) (a : ℕ) → take (length s - a) (drop a s) ≡ drop a s
  lent_is s a = take_all (length s - a) (drop a s) (omega (arith, length-drop a s))

  -- what stands when the part t comes back
  back_is : (s t : List A) (a : ℕ) → put_mid a (length s - a) s t ≡ take a s ++ t
  back_is s t a = rw (drop_of_length-le (drop a s) {i = length s - a} (omega (arith, length-drop a s)), append_nil t)

  -- The part from place c on was lent and came back with xs at its front: the whole has them from place c on.
  pub onward_back : (c : ℕ) (xs s t : List A) → c ≤ length s → t ≡ onward 0 xs (take (length s - c) (drop c s)) →
      put_mid c (length s - c) s t ≡ onward c xs s
  unfolding over onward
  onward_back c xs s t h e =
      back_is s t c
      ∙ ap (λ (l : List A). take c s ++ l) (e ∙ ap (λ (l : List A). xs ++ drop (length xs) l) (lent_is s c))
      ∙ simp (place c xs s h, drop-drop, append_assoc)
