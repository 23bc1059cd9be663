-- Settings of a text into lines, the least total over all of them, and Bellman's equation: over any line cost, any
-- admissibility (the last line's own rule included) and any monotone way totals join. Assumes nothing.
use Rattle.std.specs.Prelude.{ℕ, zero, suc, ◌+◌, ◌-◌, ◌*◌, ◌≤◌, ◌<◌, ◌≡◌, refl, Bool, List, [], ◌∷◌, T}
use Rattle.std.proofs.Common.{ap, sym, subst, ◌∙◌, ⊎_elim, mul-le-mul_right, arith}
use Rattle.laws.specs.Number.{split}
use Rattle.laws.specs.Cost.{Cost, none, some, ◌≼◌, ≼_refl, ≼_trans, some_inj, some_not_none, before, before_mono, Attained, Least}
use Rattle.laws.specs.Cost.{least_unique}

-- A line goes from a start up to a later start or to the end. `fits` says which lines are admissible, `cost` what one
-- costs, `join` how a line's cost joins the total of the rest, `done` what is left to pay at the end.
pub record Problem : Type 0 where
  pub end : ℕ
  pub fits : ℕ → ℕ → Bool
  pub cost : ℕ → ℕ → ℕ
  pub join : ℕ → ℕ → ℕ
  pub done : ℕ

abbrev pub Monotone : Problem → Type 0
Monotone p = (c m n : ℕ) → m ≤ n → p.join c m ≤ p.join c n

-- a line from start i may end before j
pub record Choice (p : Problem) (i j : ℕ) : Type 0 where
  pub rises : i < j
  pub within : j ≤ p.end
  pub admissible : T (p.fits i j)

-- ---- A setting from start i is i with its later starts: a rising list. The last line ends at the end.
abbrev pub Admissible : Problem → ℕ → List ℕ → Type 0
Admissible p i [] = Choice p i p.end
Admissible p i (j ∷ js) = Choice p i j × Admissible p j js

abbrev pub total : Problem → ℕ → List ℕ → ℕ
total p i [] = p.join (p.cost i p.end) p.done
total p i (j ∷ js) = p.join (p.cost i j) (total p j js)

abbrev pub LeastTotal : Problem → ℕ → Cost → Type 0
LeastTotal p i c = Least (Admissible p i) (λ (js : List ℕ). some (total p i js)) c

-- c is the best of start i: the least total over ALL admissible settings; at the end nothing is left
pub record Best (p : Problem) (i : ℕ) (c : Cost) : Type 0 where
  pub at_end : i ≡ p.end → c ≡ some p.done
  pub early : i < p.end → LeastTotal p i c

pub admissible_early : (p : Problem) (i : ℕ) (js : List ℕ) → Admissible p i js → i < p.end
admissible_early p i [] h = h.rises
admissible_early p i (j ∷ js) h = omega (arith, h.0.rises, h.0.within)

pub best_unique : (p : Problem) (i : ℕ) (c d : Cost) → i ≤ p.end → Best p i c → Best p i d → c ≡ d
best_unique p i c d h b e =
    ⊎_elim
    (λ g. let z : i ≡ p.end = omega arith in b.at_end z ∙ sym (e.at_end z))
    (λ g. least_unique (Admissible p i) (λ (js : List ℕ). some (total p i js)) c d (b.early g) (e.early g))
    (split p.end i)

pub best_at_end : (p : Problem) → Best p p.end (some p.done)
best_at_end p = record { at_end = λ e. refl; early = λ h. absurd (omega arith) }

-- ---- Bellman's equation
-- what the line from i to j costs with the rest, where b has the costs of the later starts
abbrev pub through : Problem → (ℕ → Cost) → ℕ → ℕ → Cost
through p b i j = before p.join (p.cost i j) (b j)

-- c is the least over the choices at i
abbrev pub Step : Problem → (ℕ → Cost) → ℕ → Cost → Type 0
Step p b i c = Least (Choice p i) (through p b i) c

-- ---- A first line, and then a rest: `Rest j` says which later starts there are after j, and `paid j` what they cost.
module _ (p : Problem) (Rest : ℕ → List ℕ → Type 0) (paid : ℕ → List ℕ → ℕ) where
  abbrev pub First : ℕ → List ℕ → Type 0
  First i [] = Choice p i p.end
  First i (j ∷ js) = Choice p i j × Rest j js

  abbrev pub first_total : ℕ → List ℕ → ℕ
  first_total i [] = p.join (p.cost i p.end) p.done
  first_total i (j ∷ js) = p.join (p.cost i j) (paid j js)

  -- The least over the choices is the least over the settings, where b has the least of each rest.
  module _ (mono : Monotone p) (b : ℕ → Cost) (i : ℕ) (ends : b p.end ≡ some p.done)
      (early : (j : ℕ) (js : List ℕ) → Rest j js → j < p.end)
      (later : (j : ℕ) → Choice p i j → j < p.end → Least (Rest j) (λ (js : List ℕ). some (paid j js)) (b j)) where
    abbrev Reaches : Cost → Type 0
    Reaches c = Attained (First i) (λ (js : List ℕ). some (first_total i js)) c

    step_low : (c : Cost) → Step p b i c → (js : List ℕ) → First i js → c ≼ some (first_total i js)
    step_low c s [] h =
        subst (λ (z : Cost). c ≼ before p.join (p.cost i p.end) z) ends (s.low p.end h)
    step_low c s (j ∷ js) h =
        ≼_trans c (through p b i j) (some (first_total i (j ∷ js)))
        (s.low j h.0)
        (before_mono p.join mono (p.cost i j) (b j) (some (paid j js)) ((later j h.0 (early j js h.1)).low js h.1))

    last_reached : (t j : ℕ) → Choice p i j → j ≡ p.end → through p b i j ≡ some t → Reaches (some t)
    last_reached t j ch e w =
        let f : through p b i p.end ≡ some t = subst (λ (k : ℕ). through p b i k ≡ some t) e w in
        ([], subst (Choice p i) e ch, sym (ap (λ (a : Cost). before p.join (p.cost i p.end) a) ends) ∙ f)

    line_reached : (t j : ℕ) → Choice p i j → (a : Cost) → Attained (Rest j) (λ (js : List ℕ). some (paid j js)) a →
        before p.join (p.cost i j) a ≡ some t → Reaches (some t)
    line_reached t j ch none r e = absurd (some_not_none (sym e))
    line_reached t j ch (some u) r e =
        (j ∷ r.0, (ch, r.1), ap (λ (n : ℕ). some (p.join (p.cost i j) n)) (some_inj r.2) ∙ e)

    step_reached : (c : Cost) → Step p b i c → Reaches c
    step_reached none s = tt
    step_reached (some t) s =
        let j : ℕ = s.reached.0 in
        let ch : Choice p i j = s.reached.1 in
        ⊎_elim
        (λ g. last_reached t j ch (omega (arith, ch.within)) s.reached.2)
        (λ g. line_reached t j ch (b j) (later j ch g).reached s.reached.2)
        (split p.end j)

    pub best_step : (c : Cost) → Step p b i c → Least (First i) (λ (js : List ℕ). some (first_total i js)) c
    best_step c s = record { low = step_low c s; reached = step_reached c s }

-- A table that satisfies Bellman's equation has the best of every start.
module _ (p : Problem) (mono : Monotone p) (b : ℕ → Cost) (ends : b p.end ≡ some p.done)
    (steps : (i : ℕ) → i < p.end → Step p b i (b i)) where
  at_the_end : (i : ℕ) → p.end ≡ i → Best p i (b i)
  at_the_end i e = rw (← e, ends) (best_at_end p)

  -- a setting from i is a first line and a setting of the rest
  same_least : (i : ℕ) →
      Least (First p (Admissible p) (total p) i) (λ (js : List ℕ). some (first_total p (Admissible p) (total p) i js)) (b i) →
      LeastTotal p i (b i)
  same_least i l = record { low = low; reached = reached (b i) l.reached }
    where
      low : (js : List ℕ) → Admissible p i js → b i ≼ some (total p i js)
      low [] h = l.low [] h
      low (j ∷ js) h = l.low (j ∷ js) h

      reached : (c : Cost) →
          Attained (First p (Admissible p) (total p) i) (λ (js : List ℕ). some (first_total p (Admissible p) (total p) i js)) c →
          Attained (Admissible p i) (λ (js : List ℕ). some (total p i js)) c
      reached none r = tt
      reached (some t) ([], h, e) = ([], h, e)
      reached (some t) (j ∷ js, h, e) = (j ∷ js, h, e)

  bellman_from : (d i : ℕ) → p.end ≤ i + d → i ≤ p.end → Best p i (b i)
  bellman_from zero i h k = at_the_end i (omega arith)
  bellman_from (suc d) i h k =
      ⊎_elim
      (λ g. at_the_end i (omega arith))
      (λ g. record {
        at_end = λ e. absurd (omega arith);
        early = λ f. same_least i
            (best_step p (Admissible p) (total p) mono b i ends (admissible_early p)
            (λ j ch e. (bellman_from d j (omega (arith, ch.rises)) ch.within).early e) (b i) (steps i g));
      })
      (split p.end i)

  pub bellman : (i : ℕ) → i ≤ p.end → Best p i (b i)
  bellman i k = bellman_from p.end i (omega arith) k

-- ---- Wider admissibility never raises the least: q admits every line that p does, and there the two cost the same.
pub record Wider (p q : Problem) : Type 0 where
  pub ends : p.end ≡ q.end
  pub fits : (i j : ℕ) → T (p.fits i j) → T (q.fits i j)
  pub cost : (i j : ℕ) → T (p.fits i j) → q.cost i j ≡ p.cost i j
  pub join : (c n : ℕ) → q.join c n ≡ p.join c n
  pub done : q.done ≡ p.done

module _ (p q : Problem) (w : Wider p q) where
  pub wider_choice : (i j : ℕ) → Choice p i j → Choice q i j
  wider_choice i j h =
      record { rises = h.rises; within = omega (arith, h.within, w.ends); admissible = w.fits i j h.admissible }

  wider_admissible : (i : ℕ) (js : List ℕ) → Admissible p i js → Admissible q i js
  wider_admissible i [] h = subst (Choice q i) w.ends (wider_choice i p.end h)
  wider_admissible i (j ∷ js) h = (wider_choice i j h.0, wider_admissible j js h.1)

  total_same : (i : ℕ) (js : List ℕ) → Admissible p i js → total q i js ≡ total p i js
  total_same i [] h =
      ap (λ (e : ℕ). q.join (q.cost i e) q.done) (sym w.ends)
      ∙ ap (λ (c : ℕ). q.join c q.done) (w.cost i p.end h.admissible)
      ∙ ap (q.join (p.cost i p.end)) w.done
      ∙ w.join (p.cost i p.end) p.done
  total_same i (j ∷ js) h =
      ap (λ (c : ℕ). q.join c (total q j js)) (w.cost i j h.0.admissible)
      ∙ ap (q.join (p.cost i j)) (total_same j js h.1)
      ∙ w.join (p.cost i j) (total p j js)

  below : (i : ℕ) (c d : Cost) → LeastTotal p i c → LeastTotal q i d → d ≼ c
  below i none d u v = tt
  below i (some t) d u v =
      let js : List ℕ = u.reached.0 in
      let h : Admissible p i js = u.reached.1 in
      subst (λ (z : Cost). d ≼ z) (ap some (total_same i js h) ∙ u.reached.2) (v.low js (wider_admissible i js h))

  pub wider : (i : ℕ) (c d : Cost) → i ≤ p.end → Best p i c → Best q i d → d ≼ c
  wider i c d h u v =
      ⊎_elim
      (λ g. let e : i ≡ p.end = omega arith in
      rw (u.at_end e, v.at_end (e ∙ w.ends), w.done) (≼_refl (some p.done)))
      (λ g. below i c d (u.early g) (v.early (omega (arith, w.ends))))
      (split p.end i)

-- ---- A bound of the totals: at most C for each line, and at most as many lines as starts.
module _ (p : Problem) (C : ℕ) (each : (i j : ℕ) → Choice p i j → p.cost i j ≤ C)
    (joined : (c n : ℕ) → p.join c n ≤ c + n) (done : p.done ≡ 0) where
  total_bound : (i : ℕ) (js : List ℕ) → Admissible p i js → total p i js ≤ (p.end - i) * C
  total_bound i [] h =
      let m : 1 ≤ p.end - i = omega (arith, h.rises) in
      omega (arith, joined (p.cost i p.end) p.done, each i p.end h, mul-le-mul_right C m)
  total_bound i (j ∷ js) h =
      let m : p.end - j + 1 ≤ p.end - i = omega (arith, h.0.rises, h.0.within) in
      omega (arith, joined (p.cost i j) (total p j js), each i j h.0, total_bound j js h.1, mul-le-mul_right C m)

  pub best_bound : (i v : ℕ) → i ≤ p.end → Best p i (some v) → v ≤ (p.end - i) * C
  best_bound i v h b =
      ⊎_elim
      (λ g. omega (arith, some_inj (b.at_end (omega arith)), done))
      (λ g. let r = (b.early g).reached in omega (arith, some_inj r.2, total_bound i r.0 r.1))
      (split p.end i)
