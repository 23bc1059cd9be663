-- The starts that the next strip leads to, one after the other. The entry for start k stands at k - o: o is 1 where the first entry
-- belongs to start 1, and 0 where it belongs to 0. Assumes nothing but what each law states.
use Prim.Native.Nat.{ℕ, zero, suc, ◌+◌, ◌-◌, ◌≤◌, ◌<◌}
use Rattle.std.specs.Prelude.{◌≡◌, true, false, leb, get_or}
use Rattle.std.proofs.Math.Path.{refl, ap, sym}
use Rattle.std.proofs.Common.{subst, ◌∙◌, le-leb}
use Rattle.std.proofs.Math.Logic.{⊎_elim}
use mathlib.Core.List.{List, [], ◌∷◌}
use native.Mathlib.Omega.{arith}
use Rattle.std.proofs.lemmas.Bool.{lt-leb}
use Rattle.laws.specs.Number.{split, when_true, when_false}
use Rattle.laws.specs.Cost.{Cost, none, some, Has, has_some, before_has}
use Rattle.laws.specs.Search.{Tie}
use Rattle.laws.specs.Setting.{Problem}
use Rattle.laws.specs.Table.{best}
use Rattle.laws.specs.Chosen.{Next, follow}

-- the next of start k
abbrev pub next_in : List ℕ → ℕ → ℕ → ℕ
next_in N o k = get_or N (k - o) 0

-- the starts from `at` on up to n, at most d of them
unfoldable pub chained : ℕ → List ℕ → ℕ → ℕ → ℕ → List ℕ
chained zero N o n at = []
chained (suc d) N o n at = elim (leb at n) [ true ↦ at ∷ chained d N o n (next_in N o at) | false ↦ [] ]

-- They rise, so n + 1 - at are enough.
unfoldable pub chain : List ℕ → ℕ → ℕ → ℕ → List ℕ
chain N o n at = chained (n + 1 - at) N o n at

-- The nexts lead from `at` past n: a start that has a next has one that is larger, and where that is no end it has a next too.
pub record LeadsOn (N : List ℕ) (o n at : ℕ) : Type 0 where
  pub from : o ≤ at
  pub first : at ≤ n → 0 < next_in N o at
  pub rises : (k : ℕ) → o ≤ k → k ≤ n → 0 < next_in N o k → k < next_in N o k
  pub on : (k : ℕ) → o ≤ k → k ≤ n → 0 < next_in N o k → next_in N o k ≤ n → 0 < next_in N o (next_in N o k)

module _ (N : List ℕ) (o n : ℕ) where
  pub leads_rises : (at : ℕ) → LeadsOn N o n at → at ≤ n → at < next_in N o at
  leads_rises at e h = e.rises at e.from h (e.first h)

  pub leads_on : (at : ℕ) → LeadsOn N o n at → at ≤ n → LeadsOn N o n (next_in N o at)
  leads_on at e h = record {
    from = omega (arith, e.from, leads_rises at e h);
    first = λ g. e.on at e.from h (e.first h) g;
    rises = e.rises;
    on = e.on;
  }

  chained_past : (d at : ℕ) → n < at → chained d N o n at ≡ []
  unfolding chained
  chained_past zero at h = refl
  chained_past (suc d) at h = when_false (leb at n) _ _ (lt-leb at n h)

  chained_more : (d at : ℕ) → at ≤ n → chained (suc d) N o n at ≡ at ∷ chained d N o n (next_in N o at)
  unfolding chained
  chained_more d at h = when_true (leb at n) _ _ (le-leb at n h)

  -- more turns than are enough make no difference
  chained_enough : (d e at : ℕ) → LeadsOn N o n at → n < at + d → n < at + e → chained d N o n at ≡ chained e N o n at
  chained_enough zero e at leads h g = chained_past zero at (omega arith) ∙ sym (chained_past e at (omega arith))
  chained_enough (suc d) zero at leads h g = chained_past (suc d) at (omega arith) ∙ sym (chained_past zero at (omega arith))
  chained_enough (suc d) (suc e) at leads h g =
      ⊎_elim
      (λ f. let rise = leads_rises at leads f in
      chained_more d at f
      ∙ ap (λ (l : List ℕ). at ∷ l) (chained_enough d e (next_in N o at) (leads_on at leads f) (omega arith) (omega arith))
      ∙ sym (chained_more e at f))
      (λ f. chained_past (suc d) at f ∙ sym (chained_past (suc e) at f))
      (split at n)

  -- ---- one turn
  pub chain_more : (at : ℕ) → LeadsOn N o n at → at ≤ n → chain N o n at ≡ at ∷ chain N o n (next_in N o at)
  unfolding chain
  chain_more at leads h =
      let rise = leads_rises at leads h in
      let e : n + 1 - at ≡ suc (n - at) = omega arith in
      ap (λ (d : ℕ). chained d N o n at) e
      ∙ chained_more (n - at) at h
      ∙ ap (λ (l : List ℕ). at ∷ l)
      (chained_enough (n - at) (n + 1 - next_in N o at) (next_in N o at) (leads_on at leads h) (omega arith) (omega arith))

  pub chain_past : (at : ℕ) → n < at → chain N o n at ≡ []
  unfolding chain
  chain_past at h = chained_past (n + 1 - at) at h

  -- ---- where the strip holds the nexts f
  module _ (f : ℕ → ℕ) (same : (k : ℕ) → o ≤ k → k ≤ n → next_in N o k ≡ f k) where
    chained_follow : (d i : ℕ) → LeadsOn N o n (f i) → chained d N o n (f i) ≡ follow (n + 1) f d i
    unfolding chained
    chained_follow zero i leads = refl
    chained_follow (suc d) i leads =
        ⊎_elim
        (λ h. let e : next_in N o (f i) ≡ f (f i) = same (f i) leads.from h in
        chained_more d (f i) h
        ∙ ap (λ (l : List ℕ). f i ∷ l)
        (ap (chained d N o n) e ∙ chained_follow d (f i) (subst (LeadsOn N o n) e (leads_on (f i) leads h)))
        ∙ sym (when_false (leb (n + 1) (f i)) [] (f i ∷ follow (n + 1) f d (f i)) (lt-leb (n + 1) (f i) (omega arith))))
        (λ h. chained_past (suc d) (f i) h
        ∙ sym (when_true (leb (n + 1) (f i)) [] (f i ∷ follow (n + 1) f d (f i)) (le-leb (n + 1) (f i) (omega arith))))
        (split (f i) n)

    -- the later starts after i
    pub chain_later : (i : ℕ) → LeadsOn N o n (f i) → chain N o n (f i) ≡ follow (n + 1) f (n + 1) i
    unfolding chain
    chain_later i leads = chained_enough (n + 1 - f i) (n + 1) (f i) leads (omega arith) (omega arith) ∙ chained_follow (n + 1) i leads

    -- i with its later starts
    pub chain_all : (i : ℕ) → LeadsOn N o n i → i ≤ n → chain N o n i ≡ i ∷ follow (n + 1) f (n + 1) i
    chain_all i leads h =
        let e : next_in N o i ≡ f i = same i leads.from h in
        chain_more i leads h
        ∙ ap (λ (l : List ℕ). i ∷ l) (ap (chain N o n) e ∙ chain_later i (subst (LeadsOn N o n) e (leads_on i leads h)))

-- ---- The chosen nexts lead on from each start that has a setting.
module _ (p : Problem) (tie : ℕ → Tie) (f : ℕ → ℕ)
    (chosen : (i : ℕ) → i < p.end → Has (best p i) → Next p (tie i) i (f i))
    (nought : (i : ℕ) → i < p.end → best p i ≡ none → f i ≡ 0) where
  has_next : (i : ℕ) → i < p.end → 0 < f i → Has (best p i)
  has_next i h pos = go (best p i) refl
    where
      go : (c : Cost) → best p i ≡ c → Has (best p i)
      go none e = absurd (omega (arith, nought i h e))
      go (some v) e = has_some e

  pub chosen_leads : (N : List ℕ) (o n : ℕ) → p.end ≡ n + 1 → ((k : ℕ) → o ≤ k → k ≤ n → next_in N o k ≡ f k) → (at : ℕ) → o ≤ at →
      (at ≤ n → Has (best p at)) → LeadsOn N o n at
  chosen_leads N o n e same at from has = record {
    from = from;
    first = λ h. omega (arith, same at from h, (chosen at (omega arith) (has h)).choice.rises);
    rises = λ k g h pos.
        let here = same k g h in
        omega (arith, (chosen k (omega arith) (has_next k (omega arith) (omega arith))).choice.rises);
    on = λ k g h pos more. on k g h (omega (arith, same k g h)) (omega (arith, same k g h));
  }
    where
      next_has : (k : ℕ) → Next p (tie k) k (f k) → Has (best p (f k))
      next_has k n = before_has p.join (p.cost k (f k)) (best p (f k)) (subst Has (sym n.gives) n.has)

      on : (k : ℕ) → o ≤ k → k ≤ n → 0 < f k → f k ≤ n → 0 < next_in N o (next_in N o k)
      on k g h pos more =
          let c = chosen k (omega arith) (has_next k (omega arith) pos) in
          let low : o ≤ f k = omega (arith, c.choice.rises) in
          rw (same k g h) (omega (arith, same (f k) low more, (chosen (f k) (omega arith) (next_has k c)).choice.rises))
