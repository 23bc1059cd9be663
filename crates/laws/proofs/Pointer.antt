-- The laws of the pointer rules, over any order in which indices are taken: that linking keeps what left and right entries are, and that
-- the pointer comes to the index that is taken before every other on an admissible page. Assumes nothing.
use Rattle.std.specs.Prelude.{ℕ, suc, ◌+◌, ◌-◌, ◌≤◌, ◌<◌, ◌≡◌, refl, ◌⊎◌, ◌≢◌, true, false, not, T}
use Rattle.std.proofs.Common.{sym, subst, ◌∙◌, inl, inr, ⊎_elim, arith, T_not}
use Rattle.std.proofs.Math.Dec.{not_T}
use Rattle.laws.specs.Number.{split}
use Rattle.laws.specs.Cost.{Cost, none, some, ◌≼◌, ≼_refl, ≼_total, leq, leq→≼, ≼→leq, Has, before, Attained, least_unique}
use Rattle.laws.specs.Search.{Tie, smallest, largest, Ahead, Found, Missing, Picked}
use Rattle.laws.specs.Setting.{Problem, Choice, through}
use Rattle.laws.specs.Table.{best, best_steps}
use Rattle.laws.specs.Chosen.{Next}
use Rattle.laws.specs.Pointer.{Order, Cheaper, ahead_total, cheaper, IsLeft, IsRight, Linking, Gaps, PointerPlaced, TakenFirst}

-- ---- the order in which indices are taken
ahead_refl : (tie : Tie) (k : ℕ) → Ahead tie k k
ahead_refl smallest k = omega arith
ahead_refl largest k = omega arith

pub same_or_not : (j k : ℕ) → (j ≡ k) ⊎ (j ≢ k)
same_or_not j k = ⊎_elim (λ h. ⊎_elim (λ g. inl (omega arith)) (λ g. inr (omega arith)) (split k j)) (λ h. inr (omega arith)) (split j k)

-- what the test "best j is not larger than best k" says of the order
pub not_larger : (b : ℕ → Cost) (j k : ℕ) → k < j → leq (b j) (b k) ≡ true → Cheaper largest b j k
not_larger b j k h e = record { low = leq→≼ (b j) (b k) (subst T (sym e) tt); strict = λ le. absurd (omega arith) }

pub larger : (tie : Tie) (b : ℕ → Cost) (j k : ℕ) → leq (b j) (b k) ≡ false → Cheaper tie b k j
larger tie b j k e = record { low = ⊎_elim (λ h. absurd (never h)) (λ h. h) (≼_total (b j) (b k)); strict = λ a. never }
  where
    never : ¬ (b j ≼ b k)
    never h = subst T e (≼→leq (b j) (b k) h)

-- ---- entries
-- The first index has no left entry.
pub left_first : {o : Order} {k : ℕ} → 1 ≤ k → IsLeft o k k 0
left_first h = record {
  below = h;
  from = λ p. absurd (omega arith);
  beats = λ p. absurd (omega arith);
  rest = λ j p q r. absurd (omega arith);
}

-- ---- linking
module _ {o : Order} {e i : ℕ} where
  pub linking_first : {L : ℕ → ℕ} → i < e → ((j : ℕ) → i < j → j ≤ e → IsLeft o (suc i) j (L j)) → Linking o e i (suc i) L
  linking_first h lefts = record {
    above = omega arith;
    within = h;
    passed = λ j p q. absurd (omega arith);
    lowest = λ j p q. absurd (omega arith);
    done = λ j p q. absurd (omega arith);
    ahead = λ j p q. lefts j p q;
  }

  module _ {k : ℕ} {L : ℕ → ℕ} (at : Linking o e i k L) where
    -- An index that is linked had no left entry: each is linked once.
    pub unlinked : L k ≡ 0
    unlinked = ⊎_elim (λ h. omega arith) (λ h. absurd (taken h)) (split (L k) 0)
      where
        own : IsLeft o (suc i) k (L k)
        own = at.ahead k (omega arith) at.within

        taken : ¬ (0 < L k)
        taken h = o.asym (L k) k (own.beats h) (at.lowest (L k) (own.from h) own.below)

    -- Link k, and go on at its right entry m.
    module _ {m : ℕ} {M : ℕ → ℕ} (beats : o.Beats i k) (right : IsRight o e k m)
        (same : M k ≡ i) (other : (j : ℕ) → j ≢ k → M j ≡ L j) where
      -- from an index between k and m on, i makes no difference
      between : (j : ℕ) → k < j → j < m → IsLeft o (suc i) j (L j) → IsLeft o i j (L j)
      between j p q left = record {
        below = left.below;
        from = λ h. omega (arith, left.from h);
        beats = left.beats;
        rest = λ a f g h. left.rest a (omega (arith, high)) g h;
      }
        where
          high : k ≤ L j
          high = ⊎_elim (λ h. h) (λ h. absurd (o.asym k j (right.rest j p q) (left.rest k at.above h p))) (split k (L j))

      own : IsLeft o i k i
      own = record {
        below = at.above;
        from = λ h. omega arith;
        beats = λ h. beats;
        rest = λ j f g h. at.lowest j g h;
      }

      at_or_past : (P : ℕ → Type 0) (j : ℕ) → (j < k → P j) → P k → (k < j → P j) → P j
      at_or_past P j lt eq gt =
          ⊎_elim
          (λ h. ⊎_elim (λ g. subst P (omega arith) eq) gt (split j k))
          lt
          (split k j)

      pub linking_more : Linking o e i m M
      linking_more = record {
        above = omega (arith, at.above, right.above);
        within = right.within;
        passed = λ j p q. at_or_past (o.Beats i) j (λ h. at.passed j p h) beats (λ h. o.trans i k j beats (right.rest j h q));
        lowest = λ j p q. at_or_past (o.Beats m) j (λ h. o.trans m k j right.beats (at.lowest j p h)) right.beats
            (λ h. o.trans m k j right.beats (right.rest j h q));
        done = λ j p q. at_or_past (λ (a : ℕ). IsLeft o i a (M a)) j
            (λ h. rw (other j (omega arith)) (at.done j p h))
            (rw same own)
            (λ h. rw (other j (omega arith)) (between j h q (at.ahead j (omega arith) (omega (arith, right.within)))));
        ahead = λ j p q. rw (other j (omega (arith, right.above))) (at.ahead j (omega (arith, right.above)) q);
      }

    -- The k reached is taken before i: it is the right entry of i, and every left entry counts i.
    module _ (beats : o.Beats k i) where
      pub linked_right : IsRight o e i k
      linked_right = record { above = at.above; within = at.within; beats = beats; rest = at.passed }

      past : (j : ℕ) → k ≤ j → j ≤ e → IsLeft o i j (L j)
      past j p q = record {
        below = left.below;
        from = λ h. omega (arith, left.from h);
        beats = left.beats;
        rest = λ a f g h.
            ⊎_elim (λ n. subst (λ (z : ℕ). o.Beats j z) (omega arith) (own (omega arith))) (λ n. left.rest a n g h) (split a i);
      }
        where
          left : IsLeft o (suc i) j (L j)
          left = at.ahead j p q

          own : L j < i → o.Beats j i
          own low = ⊎_elim
              (λ h. subst (λ (z : ℕ). o.Beats z i) (omega arith) beats)
              (λ h. o.trans j k i (left.rest k at.above (omega (arith, at.above)) h) beats)
              (split j k)

      pub linked_left : (j : ℕ) → i < j → j ≤ e → IsLeft o i j (L j)
      linked_left j p q = ⊎_elim (λ h. past j h q) (λ h. at.done j p h) (split k j)

-- ---- the pointer
module _ {o : Order} {a : Gaps} where
  pub placed_first : {i : ℕ} → PointerPlaced o a i a.end
  placed_first = record { each = λ j p q g. absurd (omega arith) }

  pub placed_step : {i r : ℕ} → a.lmax < a.gap i (suc r) → PointerPlaced o a i r
  placed_step {i} {r} over = record { each = λ j p q g. absurd (omega (arith, a.far i (suc r) j p)) }

  pub placed_jump : {i r m : ℕ} → IsLeft o (suc i) r m → 0 < m → a.lmin ≤ a.gap i m → PointerPlaced o a i r → PointerPlaced o a i m
  placed_jump {i} {r} {m} left entry fits at = record { each = λ j p q g. (fits, beats j p q g) }
    where
      beats : (j : ℕ) → m < j → j ≤ a.end → a.gap i j ≤ a.lmax → o.Beats m j
      beats j p q g =
          ⊎_elim
          (λ h. o.trans m r j (left.beats entry) (at.each j h q g).1)
          (λ h. ⊎_elim
          (λ n. subst (o.Beats m) (omega arith) (left.beats entry))
          (λ n. o.trans m r j (left.beats entry) (left.rest j (omega (arith, left.from entry)) p n))
          (split r j))
          (split (suc r) j)

  pub placed_next : {h i r : ℕ} → h ≤ i → PointerPlaced o a i r → PointerPlaced o a h r
  placed_next {h} {i} {r} le at = record {
    each = λ j p q g.
        let b = at.each j p q (omega (arith, a.near h i j le)) in
        (omega (arith, a.near h i r le), b.1);
  }

  -- Once r itself is at most lmax away and lmin forbids its left entry m, r is taken before each index that the limits allow.
  pub placed_chosen : {i r m : ℕ} → IsLeft o (suc i) r m → (0 < m → a.gap i m < a.lmin) → PointerPlaced o a i r →
      (j : ℕ) → i < j → j ≤ a.end → a.lmin ≤ a.gap i j → a.gap i j ≤ a.lmax → TakenFirst o a i r j
  placed_chosen {i} {r} {m} left short at j p q low high = record { wide = wide; beats = beats }
    where
      wide : a.lmin ≤ a.gap i r
      wide = ⊎_elim (λ h. (at.each j h q high).0) (λ h. omega (arith, a.far i j r (omega arith))) (split (suc r) j)

      past : m < j
      past = ⊎_elim (λ h. absurd (omega (arith, a.far i j m h, short (omega arith)))) (λ h. h) (split j m)

      beats : j ≢ r → o.Beats r j
      beats ne = ⊎_elim (λ h. (at.each j h q high).1) (λ h. left.rest j p past (omega arith)) (split (suc r) j)

-- ---- what is picked
-- As 01 says it: the left entry is the largest index whose best is smaller, the right entry the smallest whose best is not larger.
module _ (b : ℕ → Cost) where
  pub left_picked : {lo k m : ℕ} → 1 ≤ lo → IsLeft (cheaper largest b) lo k m → Picked largest (λ j. not (leq (b k) (b j))) lo (k - lo) m
  left_picked {lo} {k} {m} pos left = ⊎_elim (λ h. inr (none_is (omega arith))) (λ h. inl (some_is h)) (split m 0)
    where
      fails : (j : ℕ) → lo ≤ j → m < j → j < k → ¬ T (not (leq (b k) (b j)))
      fails j p q h t = T_not (leq (b k) (b j)) t (≼→leq (b k) (b j) (left.rest j p q h).low)

      none_is : m ≡ 0 → Missing (λ j. not (leq (b k) (b j))) lo (k - lo) m
      none_is e = record { nought = e; fails = λ j p q. fails j p (omega arith) (omega arith) }

      some_is : 0 < m → Found largest (λ j. not (leq (b k) (b j))) lo (k - lo) m
      some_is h = record {
        from = left.from h;
        below = omega (arith, left.below, left.from h);
        passes = not_T (leq (b k) (b m)) (λ t. (left.beats h).strict (omega (arith, left.below)) (leq→≼ (b k) (b m) t));
        ahead = λ j p q t. ⊎_elim (λ g. g) (λ g. absurd (fails j p g (omega arith) t)) (split j m);
      }

  pub right_picked : {e k m : ℕ} → IsRight (cheaper largest b) e k m → Picked smallest (λ j. leq (b j) (b k)) (k + 1) (e - k) m
  right_picked {e} {k} {m} right = inl (record {
    from = omega (arith, right.above);
    below = omega (arith, right.within, right.above);
    passes = ≼→leq (b m) (b k) right.beats.low;
    ahead = λ j p q t.
        ⊎_elim (λ g. g) (λ g. absurd ((right.rest j (omega arith) g).strict (omega arith) (leq→≼ (b j) (b k) t))) (split m j);
  })

-- ---- what is chosen
-- An index that is taken before every other choice of start i is its chosen next.
module _ (p : Problem) (i : ℕ) (early : i < p.end) where
  abbrev via : ℕ → Cost
  via = through p (best p) i

  reached : (r : ℕ) (c : Cost) → Choice p i r → via r ≡ c → Attained (Choice p i) via c
  reached r none ch e = tt
  reached r (some v) ch e = (r, ch, e)

  pub cheaper_next : (tie : Tie) (r : ℕ) → Choice p i r → Has (via r) → ((j : ℕ) → Choice p i j → j ≢ r → Cheaper tie via r j) →
      Next p tie i r
  cheaper_next tie r choice has beats = record {
    has = subst Has gives has;
    choice = choice;
    gives = gives;
    ahead = λ k ch e. ⊎_elim
        (λ h. h)
        (λ h. ⊎_elim
        (λ same. subst (λ (z : ℕ). Ahead tie z k) same (ahead_refl tie k))
        (λ other. absurd ((beats k ch other).strict h (subst (λ (c : Cost). via k ≼ c) (e ∙ sym gives) (≼_refl (via k)))))
        (same_or_not k r))
        (ahead_total tie r k);
  }
    where
      low : (j : ℕ) → Choice p i j → via r ≼ via j
      low j ch =
          ⊎_elim (λ same. subst (λ (z : ℕ). via r ≼ via z) (sym same) (≼_refl (via r))) (λ other. (beats j ch other).low) (same_or_not j r)

      gives : via r ≡ best p i
      gives =
          least_unique (Choice p i) via (via r) (best p i) (record { low = low; reached = reached r (via r) choice refl })
          (best_steps p i early)

  -- Where no choice has a best, the start has none.
  pub no_next : ((j : ℕ) → Choice p i j → best p j ≡ none) → best p i ≡ none
  no_next h = least_unique (Choice p i) via (best p i) none (best_steps p i early)
      (record { low = λ j ch. subst (λ (c : Cost). none ≼ before p.join (p.cost i j) c) (sym (h j ch)) tt; reached = tt })
