-- A strip that is filled an entry a start, from the end on: what it holds on the way, at last, and when it is read again. The first
-- entry belongs to start o, so that the entry for start k stands at the place p with p + o ≡ k: o is 1 for a paragraph, and 0 for an
-- index. Assumes nothing but what each law states.
use Rattle.std.specs.Prelude.{ℕ, suc, ◌+◌, ◌≤◌, ◌<◌, ◌≡◌, List, [], ◌∷◌, ◌++◌, length, get_or, set}
use Rattle.std.proofs.Common.{ap, sym, ◌∙◌, ⊎_elim, arith, length-append, length-set, ext_get_or, get_or-set_same, get_or-set_other}
use Rattle.std.proofs.Math.ListN.{get_or-append}
use Rattle.std.proofs.lemmas.List.{get_or_at}
use Rattle.laws.specs.Number.{split}
use Rattle.laws.specs.Strip.{over, over_front}
use Rattle.paper.specs.Strips.{entries}
use Rattle.paper_theory.specs.Entries.{length_entries, get_or_entries, entries_more}

-- the values of f for d starts, and then the end's 0
abbrev pub ended : (ℕ → ℕ) → ℕ → ℕ → List ℕ
ended f o d = entries f o d ++ (0 ∷ [])

pub length_ended : (f : ℕ → ℕ) (o d : ℕ) → length (ended f o d) ≡ d + 1
length_ended f o d = simp length-append (omega (arith, length_entries f o d))

-- ---- on the way
-- the entries of the starts from i up to n hold the values of f, and the end's is 0
pub record Entered (f : ℕ → ℕ) (o n i : ℕ) (s : List ℕ) : Type 0 where
  pub size : length s + o ≡ n + 2
  pub each : (k p : ℕ) → p + o ≡ k → i ≤ k → k ≤ n → get_or s p 0 ≡ f k
  pub last : (p : ℕ) → p + o ≡ n + 1 → get_or s p 0 ≡ 0

module _ {f : ℕ → ℕ} {o n : ℕ} where
  pub entered_first : (s : List ℕ) (p : ℕ) → length s + o ≡ n + 2 → p + o ≡ n + 1 → Entered f o n (n + 1) (set s p 0)
  entered_first s p size place = record {
    size = ap (λ (k : ℕ). k + o) (length-set s p 0) ∙ size;
    each = λ k q at low high. absurd (omega arith);
    last = λ q at. let e : q ≡ p = omega arith in rw e (get_or-set_same s p 0 0 (omega arith));
  }

  -- the entry of one start more
  pub entered_more : {i : ℕ} {s : List ℕ} → Entered f o n i s → (k p : ℕ) (t : List ℕ) → k + 1 ≡ i → k ≤ n → p + o ≡ k →
      t ≡ set s p (f k) → Entered f o n k t
  entered_more {i} {s} d k p t next within place e =
      rw e
      (record {
        size = ap (λ (m : ℕ). m + o) (length-set s p (f k)) ∙ d.size;
        each = λ j q at low high. ⊎_elim
            (λ le. let z : j ≡ k = omega arith in
            let y : q ≡ p = omega arith in
            rw (z, y) (get_or-set_same s p (f k) 0 (omega (arith, d.size))))
            (λ gt. get_or-set_other s p q (f k) 0 (omega arith) ∙ d.each j q at (omega arith) high)
            (split j k);
        last = λ q at. get_or-set_other s p q (f k) 0 (omega arith) ∙ d.last q at;
      })

  -- ---- at last
  pub entered_all : {s : List ℕ} → Entered f o n o s → (d : ℕ) → d + o ≡ n + 1 → s ≡ ended f o d
  entered_all {s} e d count = ext_get_or 0 s (ended f o d) (omega (arith, e.size, length_ended f o d)) at
    where
      at : (p : ℕ) → p < length s → get_or s p 0 ≡ get_or (ended f o d) p 0
      at p h = ⊎_elim
          (λ le. e.last p (omega (arith, e.size)) ∙ sym (get_or_at (entries f o d) 0 [] 0 p (omega (arith, e.size, length_entries f o d))))
          (λ lt. e.each (o + p) p (omega arith) (omega arith) (omega arith)
          ∙ sym (get_or-append (entries f o d) (0 ∷ []) 0 p (omega (arith, length_entries f o d)) ∙ get_or_entries f o d p 0 lt))
          (split d p)

  -- where f is 0 at the end too
  pub entered_whole : {s : List ℕ} → f (n + 1) ≡ 0 → Entered f o n o s → (d : ℕ) → d + o ≡ n + 1 → s ≡ entries f o (d + 1)
  entered_whole end e d count =
      let z : o + d ≡ n + 1 = omega arith in
      let y : d + 1 ≡ suc d = omega arith in
      entered_all e d count ∙ ap (λ (v : ℕ). entries f o d ++ (v ∷ [])) (sym (ap f z ∙ end)) ∙ rw y (sym (entries_more f o d))

-- ---- read again
-- what is read of a strip that has the values of f at its front
pub entry_read : (f : ℕ → ℕ) (o d : ℕ) (ys xs s t : List ℕ) → t ≡ over xs s → xs ≡ entries f o d ++ ys →
    (k p : ℕ) → p + o ≡ k → p < d → get_or t p 0 ≡ f k
entry_read f o d ys xs s t e g k p place h =
    let z : o + p ≡ k = omega arith in
    let size = length_entries f o d in
    ap (λ (l : List ℕ). get_or l p 0) (e ∙ ap (λ (l : List ℕ). over l s) g)
    ∙ over_front (entries f o d ++ ys) s p 0 (omega (arith, length-append (entries f o d) ys))
    ∙ get_or-append (entries f o d) ys 0 p (omega arith)
    ∙ get_or_entries f o d p 0 h ∙ ap f z
