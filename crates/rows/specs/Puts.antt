-- Bytes that are put into a lent buffer, from a place on. Past the buffer's end nothing is written: on an empty one a listing is
-- only counted. Assumes nothing.
use Rattle.std.specs.Prelude.{ℕ, suc, ◌+◌, ◌^◌, ◌≤◌, ◌<◌, ◌≡◌, refl, List, [], ◌∷◌, ◌++◌, length, get_or, drop}
use Rattle.std.proofs.Common.{ap, sym, ◌∙◌, append_assoc, zero-add, arith, length-append, drop_of_length-le}
use Rattle.std.proofs.lemmas.List.{drop_more, nil_from_length}
use Rattle.std.proofs.lemmas.List.Edits.{sets, sets-eq}
use Rattle.std.proofs.Math.Seq.{length-sets}
use Rattle.laws.specs.Strip.{over}

-- how many bytes runs of them have
abbrev pub sizes : List (List ℕ) → ℕ
sizes [] = 0
sizes (run ∷ runs) = length run + sizes runs

-- the place after runs of bytes, one after the other, is a number
pub record Fits (at : ℕ) (runs : List (List ℕ)) : Type 0 where
  pub fits : at + sizes runs < 2 ^ 64

-- the bytes stand from the place `at` on, as far as the buffer goes, and `next` is the place after them
pub record Puts (bytes : List ℕ) (at : ℕ) (s : List ℕ) (next : ℕ) (t : List ℕ) : Type 0 where
  pub place : next ≡ at + length bytes
  pub written : t ≡ sets s at bytes

sets_append : (xs ys s : List ℕ) (at next : ℕ) → next ≡ at + length xs → sets (sets s at xs) next ys ≡ sets s at (xs ++ ys)
sets_append [] ys s at next e = ap (λ (k : ℕ). sets s k ys) (omega arith)
sets_append (x ∷ xs) ys s at next e = sets_append xs ys _ (suc at) next (omega arith)

-- ---- bytes after bytes
pub puts_then : {xs ys s t u : List ℕ} {at next end : ℕ} → Puts xs at s next t → Puts ys next t end u → Puts (xs ++ ys) at s end u
puts_then {xs = xs} {ys = ys} {s = s} {at = at} {next = next} p q = record {
  place = simp length-append (omega (arith, p.place, q.place));
  written = q.written ∙ ap (λ (t : List ℕ). sets t next ys) p.written ∙ sets_append xs ys s at next p.place;
}

pub puts_none : {s : List ℕ} {at : ℕ} → Puts [] at s at s
puts_none = record { place = omega arith; written = refl }

pub puts_length : {xs s t : List ℕ} {at next : ℕ} → Puts xs at s next t → length t ≡ length s
puts_length {xs = xs} {s = s} {at = at} p = ap length p.written ∙ length-sets s at xs

-- ---- bytes made of a list, entry by entry: those of the first k are put
pub record Along (f : List ℕ → List ℕ) (xs : List ℕ) (k at : ℕ) (s : List ℕ) (next : ℕ) (t : List ℕ) : Type 0 where
  pub within : k ≤ length xs
  pub done : List ℕ
  pub all : f xs ≡ done ++ f (drop k xs)
  pub puts : Puts done at s next t

pub along_first : {f : List ℕ → List ℕ} {xs s : List ℕ} {at : ℕ} → Along f xs 0 at s at s
along_first = record { within = omega arith; done = []; all = refl; puts = puts_none }

module _ {f : List ℕ → List ℕ} {xs : List ℕ} {k at : ℕ} {s : List ℕ} {next : ℕ} {t : List ℕ} (a : Along f xs k at s next t) where
  pub along_length : length t ≡ length s
  along_length = puts_length a.puts

  left_fits : {rest : List ℕ} → f (drop k xs) ≡ rest → Fits at (f xs ∷ []) → Fits next (rest ∷ [])
  left_fits e room = omega (arith, a.puts.place, ap length a.all ∙ length-append a.done (f (drop k xs)), ap length e)

  -- one entry more, whose bytes come next
  module _ (more : k < length xs) where
    next_is : (piece : List ℕ) → f (get_or xs k 0 ∷ drop (k + 1) xs) ≡ piece ++ f (drop (k + 1) xs) →
        f (drop k xs) ≡ piece ++ f (drop (k + 1) xs)
    next_is piece one = ap f (drop_more xs k 0 more) ∙ one

    pub along_fits : {piece : List ℕ} → f (get_or xs k 0 ∷ drop (k + 1) xs) ≡ piece ++ f (drop (k + 1) xs) →
        Fits at (f xs ∷ []) → Fits next (piece ∷ [])
    along_fits {piece} one room = omega (arith, left_fits (next_is piece one) room, length-append piece (f (drop (k + 1) xs)))

    pub along_more : {piece : List ℕ} → f (get_or xs k 0 ∷ drop (k + 1) xs) ≡ piece ++ f (drop (k + 1) xs) → {end : ℕ} {u : List ℕ} →
        Puts piece next t end u → Along f xs (k + 1) at s end u
    along_more {piece} one p = record {
      within = omega arith;
      done = a.done ++ piece;
      all = a.all ∙ ap (λ (l : List ℕ). a.done ++ l) (next_is piece one) ∙ sym (append_assoc a.done piece (f (drop (k + 1) xs)));
      puts = puts_then a.puts p;
    }

  -- no entry is left: what is made of none comes next
  module _ (last : length xs ≤ k) where
    last_is : f (drop k xs) ≡ f []
    last_is = ap f (drop_of_length-le xs {i = k} last)

    pub last_fits : Fits at (f xs ∷ []) → Fits next (f [] ∷ [])
    last_fits = left_fits last_is

    pub along_end : {end : ℕ} {u : List ℕ} → Puts (f []) next t end u → Puts (f xs) at s end u
    along_end p = rw (a.all ∙ ap (λ (l : List ℕ). a.done ++ l) last_is) (puts_then a.puts p)

-- ---- from the front of a buffer
-- where there is room, the bytes stand at the front, and the rest is as it was
pub puts_over : {xs s t : List ℕ} {next : ℕ} → Puts xs 0 s next t → length xs ≤ length s → t ≡ over xs s
unfolding over
puts_over {xs = xs} {s = s} p room = p.written ∙ sets-eq xs s 0 (omega arith) ∙ rw zero-add

-- an empty buffer stays empty
pub puts_counted : {xs t : List ℕ} {next : ℕ} → Puts xs 0 [] next t → t ≡ []
puts_counted {xs = xs} p = p.written ∙ nil_from_length (sets [] 0 xs) (length-sets [] 0 xs)
