-- The chosen next of each start, by the tie rule of that start, and the setting that follows the chosen nexts: it is
-- admissible and has the least total. Assumes nothing.
use Rattle.std.specs.Prelude.{ℕ, zero, suc, ◌+◌, ◌-◌, ◌≤◌, ◌<◌, ◌≡◌, refl, ◌↔◌, Bool, true, false, not, ◌&&◌, List, [], ◌∷◌, T, leb}
use Rattle.std.proofs.Common.{ap, sym, subst, ◌∙◌, ⊎_elim, arith, leb-false, leb→le}
use Rattle.std.proofs.Math.Dec.{nleb→lt}
use Rattle.laws.specs.Number.{both}
use Rattle.laws.specs.Cost.{Cost, none, some, ◌≼◌, leq, leq→≼, ≼→leq, ≼_refl, ≼_antisym, some_inj, Has, before, before_has}
use Rattle.laws.specs.Search.{Tie, Ahead, Found, pick, pick_is, ahead_antisym}
use Rattle.laws.specs.Setting.{Problem, Monotone, Choice, Admissible, admissible_early, total, LeastTotal, through, Step}
use Rattle.laws.specs.Setting.{Wider, wider_choice, wider}
use Rattle.laws.specs.Table.{best, best_steps, best_end, best_is}

-- j is the chosen next of start i, where c is the best of i and b has the costs of the later starts: i has a setting, the line to j gives
-- the best, and the tie rule takes j before every other that gives it
pub record NextOver (p : Problem) (b : ℕ → Cost) (c : Cost) (tie : Tie) (i j : ℕ) : Type 0 where
  pub has : Has c
  pub choice : Choice p i j
  pub gives : through p b i j ≡ c
  pub ahead : (k : ℕ) → Choice p i k → through p b i k ≡ c → Ahead tie j k

abbrev pub Next : Problem → Tie → ℕ → ℕ → Type 0
Next p tie i j = NextOver p (best p) (best p i) tie i j

pub next_unique : {p : Problem} {b : ℕ → Cost} {c : Cost} {tie : Tie} {i j k : ℕ} → NextOver p b c tie i j → NextOver p b c tie i k → j ≡ k
next_unique {tie = tie} {j = j} {k = k} m n = ahead_antisym tie (m.ahead k n.choice n.gives) (n.ahead j m.choice m.gives)

-- ---- computed
-- the line to j is admissible, and costs no more than the best
abbrev pub gives_cost : Problem → (ℕ → Cost) → Cost → ℕ → ℕ → Bool
gives_cost p b c i j = p.fits i j && leq (through p b i j) c

-- the chosen next; 0 where start i has no setting
abbrev pub next_over : Problem → (ℕ → Cost) → Cost → Tie → ℕ → ℕ
next_over p b none tie i = 0
next_over p b (some v) tie i = pick tie (gives_cost p b (some v) i) (suc i) (p.end - i)

unfoldable pub next : Problem → Tie → ℕ → ℕ
next p tie i = next_over p (best p) (best p i) tie i

-- c is the least over the choices at i
module _ (p : Problem) (b : ℕ → Cost) (tie : Tie) (i : ℕ) (c : Cost) (step : Step p b i c) where
  gives_choice : (j : ℕ) → i < j → j ≤ p.end → T (gives_cost p b c i j) → Choice p i j × (through p b i j ≼ c)
  gives_choice j lt le t =
      let h = both (p.fits i j) (leq (through p b i j) c) t in
      (record { rises = lt; within = le; admissible = h.0 }, leq→≼ (through p b i j) c h.1)

  choice_gives : (j : ℕ) → Choice p i j → through p b i j ≡ c → T (gives_cost p b c i j)
  choice_gives j ch e =
      go (p.fits i j) (leq (through p b i j) c) ch.admissible
      (≼→leq (through p b i j) c (subst (λ (z : Cost). z ≼ c) (sym e) (≼_refl c)))
    where
      go : (a b : Bool) → T a → T b → T (a && b)
      go true true s t = tt
      go true false s t = absurd t
      go false b s t = absurd s

  choice_in : (j : ℕ) → Choice p i j → j < suc i + (p.end - i)
  choice_in j ch = omega (arith, ch.within, ch.rises)

  found : Has c → (j : ℕ) → Found tie (gives_cost p b c i) (suc i) (p.end - i) j → NextOver p b c tie i j
  found has j f =
      let g = gives_choice j f.from (omega (arith, f.below, f.from)) f.passes in
      record {
        has = has;
        choice = g.0;
        gives = ≼_antisym (through p b i j) c g.1 (step.low j g.0);
        ahead = λ k ch e. f.ahead k ch.rises (choice_in k ch) (choice_gives k ch e);
      }

-- What is computed is the chosen next: a start with a best has a choice that reaches it.
pub next_over_lem : (p : Problem) (b : ℕ → Cost) (tie : Tie) (i : ℕ) (c : Cost) → Step p b i c → Has c →
    NextOver p b c tie i (next_over p b c tie i)
next_over_lem p b tie i none step h = absurd h
next_over_lem p b tie i (some v) step h =
    ⊎_elim
    (λ f. found p b tie i (some v) step tt j f)
    (λ m. absurd (m.fails k ch.rises (choice_in p b tie i (some v) step k ch)
    (choice_gives p b tie i (some v) step k ch step.reached.2)))
    (pick_is tie (gives_cost p b (some v) i) (suc i) (p.end - i))
  where
    j : ℕ
    j = pick tie (gives_cost p b (some v) i) (suc i) (p.end - i)

    k : ℕ
    k = step.reached.0

    ch : Choice p i k
    ch = step.reached.1

module _ (p : Problem) (tie : Tie) (i : ℕ) (early : i < p.end) where
  pub next_is : Has (best p i) → Next p tie i (next p tie i)
  unfolding next
  next_is h = next_over_lem p (best p) tie i (best p i) (best_steps p i early) h

  pub next_none : best p i ≡ none → next p tie i ≡ 0
  unfolding next
  next_none e = rw e

-- ---- Two problems that admit the same lines, at the same costs, have the same bests and choose alike.
module _ (p q : Problem) (mono : Monotone p) (also : Monotone q) (there : Wider p q) (back : Wider q p) where
  pub best_alike : (i : ℕ) → i ≤ p.end → best p i ≡ best q i
  best_alike i h =
      let u = best_is p mono i h in
      let v = best_is q also i (omega (arith, there.ends)) in
      ≼_antisym (best p i) (best q i) (wider q p back i (best q i) (best p i) (omega (arith, there.ends)) v u)
      (wider p q there i (best p i) (best q i) h u v)

  through_alike : (i j : ℕ) → Choice p i j → through p (best p) i j ≡ through q (best q) i j
  through_alike i j ch =
      rw (best_alike j ch.within, ← there.cost i j ch.admissible) (joins (best q j))
    where
      joins : (a : Cost) → before p.join (q.cost i j) a ≡ before q.join (q.cost i j) a
      joins none = refl
      joins (some n) = ap some (sym (there.join (q.cost i j) n))

  module _ (tie : Tie) (i : ℕ) (early : i < p.end) where
    next_back : (j : ℕ) → Next q tie i j → Next p tie i j
    next_back j n =
        let here = best_alike i (omega arith) in
        let choice = wider_choice q p back i j n.choice in
        record {
          has = subst Has (sym here) n.has;
          choice = choice;
          gives = through_alike i j choice ∙ n.gives ∙ sym here;
          ahead = λ k ch e. n.ahead k (wider_choice p q there i k ch) (sym (through_alike i k ch) ∙ e ∙ here);
        }

    pub next_alike : next p tie i ≡ next q tie i
    next_alike =
        go (best p i) refl
      where
        here : best p i ≡ best q i
        here = best_alike i (omega arith)

        later : i < q.end
        later = omega (arith, there.ends)

        go : (c : Cost) → best p i ≡ c → next p tie i ≡ next q tie i
        go none e = next_none p tie i early e ∙ sym (next_none q tie i later (sym here ∙ e))
        go (some v) e =
            let has : Has (best p i) = rw e tt in
            next_unique (next_is p tie i early has) (next_back (next q tie i) (next_is q tie i later (subst Has here has)))

-- ---- the setting that follows the chosen nexts
module _ (p : Problem) (tie : ℕ → Tie) where
  abbrev pub Follows : ℕ → List ℕ → Type 0
  Follows i [] = Next p (tie i) i p.end
  Follows i (j ∷ js) = Next p (tie i) i j × Follows j js

  pub follows_admissible : (i : ℕ) (js : List ℕ) → Follows i js → Admissible p i js
  follows_admissible i [] h = h.choice
  follows_admissible i (j ∷ js) h = (h.0.choice, follows_admissible j js h.1)

  pub follows_total : (i : ℕ) (js : List ℕ) → Follows i js → best p i ≡ some (total p i js)
  follows_total i [] h = sym h.gives ∙ ap (λ (a : Cost). before p.join (p.cost i p.end) a) (best_end p)
  follows_total i (j ∷ js) h = sym h.0.gives ∙ ap (λ (a : Cost). before p.join (p.cost i j) a) (follows_total j js h.1)

  -- nothing follows the end
  follows_early : (i : ℕ) (js : List ℕ) → Follows i js → p.end ≡ i → ⊥
  follows_early i js h e = omega (arith, admissible_early p i js (follows_admissible i js h))

  pub follows_unique : (i : ℕ) (js ks : List ℕ) → Follows i js → Follows i ks → js ≡ ks
  follows_unique i [] [] h g = refl
  follows_unique i [] (k ∷ ks) h g = absurd (follows_early k ks g.1 (next_unique h g.0))
  follows_unique i (j ∷ js) [] h g = absurd (follows_early j js h.1 (next_unique g h.0))
  follows_unique i (j ∷ js) (k ∷ ks) h g =
      let e : j ≡ k = next_unique h.0 g.0 in
      rw e (ap (λ (z : List ℕ). k ∷ z) (follows_unique k js ks (subst (λ (z : ℕ). Follows z js) e h.1) g.1))

-- the later starts after i, at most d of them: follow the nexts up to the end
abbrev pub follow : ℕ → (ℕ → ℕ) → ℕ → ℕ → List ℕ
follow e f zero i = []
follow e f (suc d) i = elim (leb e (f i)) [ true ↦ [] | false ↦ f i ∷ follow e f d (f i) ]

-- the same nexts before the end are followed alike
pub follow_alike : (e : ℕ) (f g : ℕ → ℕ) → ((i : ℕ) → i < e → f i ≡ g i) → (d i : ℕ) → i < e → follow e f d i ≡ follow e g d i
follow_alike e f g same zero i h = refl
follow_alike e f g same (suc d) i h =
    subst (λ (j : ℕ). follow e f (suc d) i ≡ step (leb e j) j) (same i h)
    (go (leb e (f i)) (λ early. follow_alike e f g same d (f i) (leb-false e (f i) early)) refl)
  where
    step : Bool → ℕ → List ℕ
    step past j = elim past [ true ↦ [] | false ↦ j ∷ follow e g d j ]

    go : (past : Bool) → (leb e (f i) ≡ false → follow e f d (f i) ≡ follow e g d (f i)) → leb e (f i) ≡ past →
        elim past [ true ↦ [] | false ↦ f i ∷ follow e f d (f i) ] ≡ step past (f i)
    go true rest t = refl
    go false rest t = ap (λ (js : List ℕ). f i ∷ js) (rest t)

module _ (p : Problem) (tie : ℕ → Tie) (f : ℕ → ℕ)
    (chosen : (i : ℕ) → i < p.end → Has (best p i) → Next p (tie i) i (f i)) where
  -- the rest after a chosen next has a best
  next_has : (i j : ℕ) → Next p (tie i) i j → Has (best p j)
  next_has i j n = before_has p.join (p.cost i j) (best p j) (subst Has (sym n.gives) n.has)

  follow_from : (d i : ℕ) → i < p.end → p.end ≤ i + d → Has (best p i) → Follows p tie i (follow p.end f d i)
  follow_from zero i lt le h = absurd (omega arith)
  follow_from (suc d) i lt le h = go (leb p.end (f i)) refl (chosen i lt h)
      (λ n g. follow_from d (f i) g (omega (arith, n.choice.rises)) (next_has i (f i) n))
    where
      go : (b : Bool) → leb p.end (f i) ≡ b → Next p (tie i) i (f i) →
          (Next p (tie i) i (f i) → f i < p.end → Follows p tie (f i) (follow p.end f d (f i))) →
          Follows p tie i (elim b [ true ↦ [] | false ↦ f i ∷ follow p.end f d (f i) ])
      go true e n rest = subst (Next p (tie i) i) (omega (arith, n.choice.within, leb→le p.end (f i) (subst T (sym e) tt))) n
      go false e n rest = (n, rest n (nleb→lt p.end (f i) (subst (λ (b : Bool). T (not b)) (sym e) tt)))

  -- A start with a best has a setting that follows the chosen nexts: this one.
  pub follow_follows : (i : ℕ) → i < p.end → Has (best p i) → Follows p tie i (follow p.end f p.end i)
  follow_follows i lt h = follow_from p.end i lt (omega arith) h

-- ---- right by the definitions
-- The setting from i with the later starts js is admissible, has the total v, and no admissible one has a smaller total.
pub record Cheapest (p : Problem) (i v : ℕ) (js : List ℕ) : Type 0 where
  pub admissible : Admissible p i js
  pub costs : total p i js ≡ v
  pub least : (ks : List ℕ) → Admissible p i ks → v ≤ total p i ks

pub follows_cheapest : (p : Problem) → Monotone p → (tie : ℕ → Tie) (i v : ℕ) (js : List ℕ) → best p i ≡ some v → Follows p tie i js →
    Cheapest p i v js
follows_cheapest p mono tie i v js e f = record {
  admissible = follows_admissible p tie i js f;
  costs = some_inj (sym (follows_total p tie i js f) ∙ e);
  least = λ ks a. subst (λ (c : Cost). c ≼ some (total p i ks)) e
      (((best_is p mono i (omega (arith, admissible_early p i ks a))).early (admissible_early p i ks a)).low ks a);
}

-- There is no best exactly where there is no admissible setting.
pub none_exactly : (p : Problem) → Monotone p → (i : ℕ) → i < p.end → (best p i ≡ none) ↔ ((js : List ℕ) → ¬ Admissible p i js)
none_exactly p mono i early = (to, from (best p i) refl)
  where
    least : LeastTotal p i (best p i)
    least = (best_is p mono i (omega arith)).early early

    to : best p i ≡ none → (js : List ℕ) → ¬ Admissible p i js
    to e js a = subst (λ (c : Cost). c ≼ some (total p i js)) e (least.low js a)

    from : (c : Cost) → best p i ≡ c → ((js : List ℕ) → ¬ Admissible p i js) → best p i ≡ none
    from none e nobody = e
    from (some v) e nobody =
        let r = (subst (LeastTotal p i) e least).reached in
        absurd (nobody r.0 r.1)
