-- One turn of each pointer rule, as a loop that ends by its test takes it: while the test holds the rule is a move and then the
-- rule again, and otherwise it stands still. The rules' bounds on the number of turns are never met. For any pages. Assumes nothing
-- but what each law states.
use Prim.Native.Nat.{ℕ, zero, suc, ◌+◌, ◌-◌, ◌≤◌, ◌<◌}
use Rattle.std.specs.Prelude.{◌≡◌, Bool, ◌&&◌, List, set}
use Rattle.std.proofs.Math.Path.{refl}
use Rattle.std.proofs.Common.{ap, sym, ◌∙◌, ⊎_elim, arith}
use Rattle.std.proofs.Math.Bool.{true, false}
use Rattle.std.proofs.Math.Dec.{leb, ltb}
use borrow.Author.Tests.{lt-ltb, le-ltb, le-leb, lt-leb, ltb-true}
use Rattle.laws.specs.Number.{split, tested, true_not_false, when_true, when_false}
use Rattle.laws.specs.Cost.{leq}
use Rattle.paper.specs.declared.Kind.TheVariants.{Step, Jump, Link}
use Rattle.paper.specs.Moves.{move, Taken, still, moved}
use Rattle.paper.specs.PointerRules.{Pages, entry_at, steps, jumps, Linked, links}

-- ---- "Step r to r-1 while Gap(i, r) > lmax"
module _ (p : Pages) (i : ℕ) where
  step : (r : ℕ) → p.limits.lmax < p.gap i (suc r) → steps p i (suc r) ≡ moved (move Step r) (steps p i r)
  unfolding steps
  step r h = when_true _ _ _ (lt-ltb p.limits.lmax (p.gap i (suc r)) h)

  pub steps_more : (r : ℕ) → 1 ≤ r → p.limits.lmax < p.gap i r → steps p i r ≡ moved (move Step (r - 1)) (steps p i (r - 1))
  steps_more zero pos h = absurd (omega arith)
  steps_more (suc r) pos h = let e : suc r - 1 ≡ r = omega arith in rw e (step r h)

  pub steps_stop : (r : ℕ) → (1 ≤ r → p.gap i r ≤ p.limits.lmax) → steps p i r ≡ still r
  unfolding steps
  steps_stop zero h = refl
  steps_stop (suc r) h = when_false _ _ _ (le-ltb p.limits.lmax (p.gap i (suc r)) (h (omega arith)))

  -- what holds where the steps stop, and is kept by a step, holds of all of them
  module _ (P : ℕ → Taken ℕ → Type 0) (stop : (r : ℕ) → (1 ≤ r → p.gap i r ≤ p.limits.lmax) → P r (still r))
      (more : (r : ℕ) (t : Taken ℕ) → p.limits.lmax < p.gap i (suc r) → P r t → P (suc r) (moved (move Step r) t)) where
    pub steps_by : (r : ℕ) → P r (steps p i r)
    steps_by zero = rw (steps_stop 0 (λ h. absurd (omega arith))) (stop 0 (λ h. absurd (omega arith)))
    steps_by (suc r) =
        ⊎_elim
        (λ h. rw (steps_stop (suc r) (λ pos. h)) (stop (suc r) (λ pos. h)))
        (λ h. rw (step r h) (more r (steps p i r) h (steps_by r)))
        (split (p.gap i (suc r)) p.limits.lmax)

-- ---- "Jump r to its left entry while it has one and Gap(i, that entry) ≥ lmin"
module _ (p : Pages) (i : ℕ) (left : List ℕ) where
  -- the test fails: there is no left entry, or it is too near
  abbrev pub Stops : ℕ → Type 0
  Stops r = 0 < entry_at left r → p.gap i (entry_at left r) < p.limits.lmin

  pub jumps_stop : (d r : ℕ) → Stops r → jumps p i left d r ≡ still r
  unfolding jumps
  jumps_stop zero r h = refl
  jumps_stop (suc d) r h = when_false _ _ _ (go (ltb 0 (entry_at left r)) refl)
    where
      go : (b : Bool) → ltb 0 (entry_at left r) ≡ b → b && leb p.limits.lmin (p.gap i (entry_at left r)) ≡ false
      go true e = lt-leb p.limits.lmin (p.gap i (entry_at left r)) (h (ltb-true 0 (entry_at left r) e))
      go false e = refl

  -- the test holds, with one more turn left
  jump : (d r : ℕ) → 0 < entry_at left r → p.limits.lmin ≤ p.gap i (entry_at left r) →
      jumps p i left (suc d) r ≡ moved (move Jump (entry_at left r)) (jumps p i left d (entry_at left r))
  unfolding jumps
  jump d r h g = when_true _ _ _ holds
    where
      holds : ltb 0 (entry_at left r) && leb p.limits.lmin (p.gap i (entry_at left r)) ≡ true
      holds = rw (lt-ltb 0 (entry_at left r) h) (le-leb p.limits.lmin (p.gap i (entry_at left r)) g)

  -- it fails, or holds
  jump_tested : {C : Type 0} (r : ℕ) → (Stops r → C) → (0 < entry_at left r → p.limits.lmin ≤ p.gap i (entry_at left r) → C) → C
  jump_tested r stop on =
      ⊎_elim
      (λ none. stop (λ h. absurd (omega arith)))
      (λ entry. ⊎_elim (on entry) (λ near. stop (λ h. near)) (split p.limits.lmin (p.gap i (entry_at left r))))
      (split (entry_at left r) 0)

  -- left entries are smaller than their index
  module _ (falls : (k : ℕ) → 0 < entry_at left k → entry_at left k < k) where
    jumps_none : (d e r : ℕ) → r ≤ 0 → jumps p i left d r ≡ jumps p i left e r
    jumps_none d e r h =
        let stop : Stops r = λ f. absurd (omega (arith, falls r f)) in
        jumps_stop d r stop ∙ sym (jumps_stop e r stop)

    -- r turns are enough
    jumps_enough : (d e r : ℕ) → r ≤ d → r ≤ e → jumps p i left d r ≡ jumps p i left e r
    jumps_enough zero e r h g = jumps_none zero e r h
    jumps_enough (suc d) zero r h g = jumps_none (suc d) zero r g
    jumps_enough (suc d) (suc e) r h g =
        jump_tested r
        (λ stop. jumps_stop (suc d) r stop ∙ sym (jumps_stop (suc e) r stop))
        (λ entry far. jump d r entry far
        ∙ ap (moved (move Jump (entry_at left r)))
        (jumps_enough d e (entry_at left r) (omega (arith, falls r entry)) (omega (arith, falls r entry)))
        ∙ sym (jump e r entry far))

    pub jumps_more : (r : ℕ) → 0 < entry_at left r → p.limits.lmin ≤ p.gap i (entry_at left r) →
        jumps p i left r r ≡ moved (move Jump (entry_at left r)) (jumps p i left (entry_at left r) (entry_at left r))
    jumps_more r entry far =
        let fall = falls r entry in
        jumps_enough r (suc r) r (omega arith) (omega arith) ∙ jump r r entry far
        ∙ ap (moved (move Jump (entry_at left r))) (jumps_enough r (entry_at left r) (entry_at left r) (omega arith) (omega arith))

    -- what holds where the jumps stop, and is kept by a jump, holds of all of them
    module _ (P : ℕ → Taken ℕ → Type 0) (stop : (r : ℕ) → Stops r → P r (still r))
        (more : (r : ℕ) (t : Taken ℕ) → 0 < entry_at left r → p.limits.lmin ≤ p.gap i (entry_at left r) → P (entry_at left r) t →
        P r (moved (move Jump (entry_at left r)) t)) where
      jumps_from : (d r : ℕ) → r < d → P r (jumps p i left r r)
      jumps_from zero r h = absurd (omega arith)
      jumps_from (suc d) r h =
          jump_tested r
          (λ f. rw (jumps_stop r r f) (stop r f))
          (λ entry far. rw (jumps_more r entry far)
          (more r (jumps p i left (entry_at left r) (entry_at left r)) entry far
          (jumps_from d (entry_at left r) (omega (arith, falls r entry)))))

      pub jumps_by : (r : ℕ) → P r (jumps p i left r r)
      jumps_by r = jumps_from (suc r) r (omega arith)

-- ---- "while best k > best i, Link k (its left becomes i) and go on at the right of k"
module _ (p : Pages) (i : ℕ) (right : List ℕ) where
  pub links_stop : (d k : ℕ) (left : List ℕ) → leq (p.best k) (p.best i) ≡ true →
      links p i right d k left ≡ still (record { reached = k; left = left })
  unfolding links
  links_stop zero k left h = refl
  links_stop (suc d) k left h = when_true _ _ _ h

  -- the test holds, with one more turn left
  link : (d k : ℕ) (left : List ℕ) → leq (p.best k) (p.best i) ≡ false →
      links p i right (suc d) k left ≡ moved (move Link k) (links p i right d (entry_at right k) (set left k i))
  unfolding links
  link d k left h = when_false _ _ _ h

  -- right entries are larger than their index, up to the end n + 1, where the linking ends
  module _ (n : ℕ) (ends : leq (p.best (n + 1)) (p.best i) ≡ true)
      (rises : (k : ℕ) → i < k → k ≤ n → (k < entry_at right k) × (entry_at right k ≤ n + 1)) where
    at_end : (k : ℕ) → n + 1 ≤ k → k ≤ n + 1 → leq (p.best k) (p.best i) ≡ true
    at_end k low high = let e : k ≡ n + 1 = omega arith in rw e ends

    -- an index that is linked stands before the end
    pub links_early : (k : ℕ) → k ≤ n + 1 → leq (p.best k) (p.best i) ≡ false → k ≤ n
    links_early k high h =
        ⊎_elim (λ g. absurd (true_not_false (sym (at_end k g high) ∙ h))) (λ g. omega arith) (split (n + 1) k)

    links_none : (c d k : ℕ) (left : List ℕ) → n + 1 ≤ k → k ≤ n + 1 → links p i right c k left ≡ links p i right d k left
    links_none c d k left low high = let stop = at_end k low high in links_stop c k left stop ∙ sym (links_stop d k left stop)

    -- n + 1 - k turns are enough
    pub links_enough : (c d k : ℕ) (left : List ℕ) → i < k → k ≤ n + 1 → n + 1 - k ≤ c → n + 1 - k ≤ d →
        links p i right c k left ≡ links p i right d k left
    links_enough zero d k left low high f g = links_none zero d k left (omega arith) high
    links_enough (suc c) zero k left low high f g = links_none (suc c) zero k left (omega arith) high
    links_enough (suc c) (suc d) k left low high f g =
        ⊎_elim
        (λ stop. links_stop (suc c) k left stop ∙ sym (links_stop (suc d) k left stop))
        (λ more. let r = rises k low (links_early k high more) in
        link c k left more
        ∙ ap (moved (move Link k)) (links_enough c d (entry_at right k) (set left k i) (omega arith) r.1 (omega arith) (omega arith))
        ∙ sym (link d k left more))
        (tested (leq (p.best k) (p.best i)))

    pub links_more : (k : ℕ) (left : List ℕ) → i < k → k ≤ n + 1 → leq (p.best k) (p.best i) ≡ false →
        links p i right (n + 1 - k) k left
        ≡ moved (move Link k) (links p i right (n + 1 - entry_at right k) (entry_at right k) (set left k i))
    links_more k left low high more =
        let r = rises k low (links_early k high more) in
        links_enough (n + 1 - k) (suc (n + 1)) k left low high (omega arith) (omega arith)
        ∙ link (n + 1) k left more
        ∙ ap (moved (move Link k))
        (links_enough (n + 1) (n + 1 - entry_at right k) (entry_at right k) (set left k i) (omega arith) r.1 (omega arith) (omega arith))

    -- what holds where the linking stops, and is kept by a link, holds of all of it
    module _ (P : ℕ → List ℕ → Taken Linked → Type 0)
        (stop : (k : ℕ) (left : List ℕ) → i < k → k ≤ n + 1 → leq (p.best k) (p.best i) ≡ true →
        P k left (still (record { reached = k; left = left })))
        (more : (k : ℕ) (left : List ℕ) (t : Taken Linked) → i < k → k ≤ n → leq (p.best k) (p.best i) ≡ false →
        P (entry_at right k) (set left k i) t → P k left (moved (move Link k) t)) where
      links_from : (d k : ℕ) (left : List ℕ) → n + 1 < k + d → i < k → k ≤ n + 1 → P k left (links p i right (n + 1 - k) k left)
      links_from zero k left h low high = absurd (omega arith)
      links_from (suc d) k left h low high =
          ⊎_elim
          (λ e. rw (links_stop (n + 1 - k) k left e) (stop k left low high e))
          (λ e. let early = links_early k high e in
          let r = rises k low early in
          rw (links_more k left low high e)
          (more k left (links p i right (n + 1 - entry_at right k) (entry_at right k) (set left k i)) low early e
          (links_from d (entry_at right k) (set left k i) (omega arith) (omega arith) r.1)))
          (tested (leq (p.best k) (p.best i)))

      -- from k = i + 1 on
      pub links_by : (left : List ℕ) → i ≤ n → P (suc i) left (links p i right n (suc i) left)
      links_by left low =
          rw (links_enough n (n + 1 - suc i) (suc i) left (omega arith) (omega arith) (omega arith) (omega arith))
          (links_from (n + 1) (suc i) left (omega arith) (omega arith) (omega arith))
