-- The moves that keep the queue of candidates, and that its front is the choice. Over any F, E, m and Ok with two laws; squares and lines
-- come in only by those. Assumes nothing.
use Rattle.std.specs.Prelude.{ℕ, ◌+◌, ◌≤◌, ◌<◌, ◌≡◌, List, [], ◌∷◌, reverse}
use Rattle.std.proofs.Common.{subst, inl, inr, ⊎_elim, arith}
use Rattle.laws.specs.Number.{split}
use Rattle.laws.specs.Members.{Every, every_map, every_reverse, Any, any_map, any_every, any_gives, any_reverse, pairs_reverse, Threes}
use Rattle.laws.specs.Members.{threes_map, threes_tail, threes_reverse}
use Rattle.laws.specs.Queue.{Live, Beats, Laws, Ordered, Useless, Leads, Wins, Kept, Adding}

pub beats_refl : (F : ℕ → ℕ → ℕ) (x j : ℕ) → Beats F x j j
beats_refl F x j = inr (omega arith)

pub beats_trans : (F : ℕ → ℕ → ℕ) (x i j k : ℕ) → Beats F x i j → Beats F x j k → Beats F x i k
beats_trans F x i j k (inl p) (inl q) = inl (omega arith)
beats_trans F x i j k (inl p) (inr q) = inl (omega arith)
beats_trans F x i j k (inr p) (inl q) = inl (omega arith)
beats_trans F x i j k (inr p) (inr q) = inr (omega arith)

-- ---- what the moves are shown by
module _ (F : ℕ → ℕ → ℕ) (E : ℕ → ℕ) (m : ℕ) where
  -- who beats k at y beats whoever k beats there
  over : (y c k : ℕ) (q : List ℕ) → Any (Wins F E m y k) q → Beats F y k c → Any (Wins F E m y c) q
  over y c k q w b = any_map (Wins F E m y k) (Wins F E m y c) (λ j v. (v.0, beats_trans F y j k c v.1 b)) q w

  -- j < k, and j is no worse than k at y: j wins
  nearer : {Ok : ℕ → Type 0} → Laws F E Ok → (y j k : ℕ) → Ok j → Ok k → j < k → Live E m k y → F j y ≤ F k y → Wins F E m y k j
  nearer laws y j k hasj hask lt live le = (omega (arith, laws.rise j k hasj hask lt), inr (le, omega arith))

  -- In a queue whose members are live, each is better than the next once the front is.
  climb : (x h : ℕ) (q : List ℕ) → Threes (λ (a b c : ℕ). Ordered F E m x c b a) (h ∷ q) → Every (λ (k : ℕ). Live E m k x) (h ∷ q) →
      Leads F x (h ∷ q) →
      Every (λ (k : ℕ). F h x < F k x) q
  climb x h [] order live lt = tt
  climb x h (s ∷ q) order live lt = (
    lt,
    every_map (λ (k : ℕ). F s x < F k x) (λ (k : ℕ). F h x < F k x) (λ k g. omega arith) q
        (climb x s q (threes_tail (λ (a b c : ℕ). Ordered F E m x c b a) h (s ∷ q) order) live.1 (next q order)),
  )
    where
      next : (q : List ℕ) → Threes (λ (a b c : ℕ). Ordered F E m x c b a) (h ∷ s ∷ q) → Leads F x (s ∷ q)
      next [] order = tt
      next (r ∷ q) order = ⊎_elim (λ g. absurd (omega (arith, order.0 x (omega arith) live.0 g))) (λ g. g) (split (F r x) (F s x))

module _ {F : ℕ → ℕ → ℕ} {E : ℕ → ℕ} {m : ℕ} {Ok : ℕ → Type 0} where
  -- ---- the queue between moves
  -- no candidate yet
  pub nothing : {x lo : ℕ} → ((c : ℕ) → lo ≤ c → ¬ Ok c) → Kept F E m Ok x lo []
  nothing nobody = record { falls = tt; ok = tt; order = tt; above = tt; cover = λ y c le from has. absurd (nobody c from has) }

  -- the next start
  pub later : {x y lo : ℕ} {q : List ℕ} → y ≤ x → Kept F E m Ok x lo q → Kept F E m Ok y lo q
  later {x} {y} {q = q} le u = record {
    falls = u.falls;
    ok = u.ok;
    order = threes_map (λ (a b c : ℕ). Ordered F E m x c b a) (λ (a b c : ℕ). Ordered F E m y c b a) (λ a b c h z zy. h z (omega arith)) q
        u.order;
    above = u.above;
    cover = λ z c zy. u.cover z c (omega arith);
  }

  -- Pass: a candidate that will never be live and have a cost
  pub pass : {x lo n : ℕ} {q : List ℕ} → n + 1 ≡ lo → ((y : ℕ) → y ≤ x → Ok n → ¬ Live E m n y) → Kept F E m Ok x lo q →
      Kept F E m Ok x n q
  pass {lo = lo} {n = n} {q = q} e never u = record {
    falls = u.falls;
    ok = u.ok;
    order = u.order;
    above = every_map (λ (k : ℕ). lo ≤ k) (λ (k : ℕ). n ≤ k) (λ k h. omega arith) q u.above;
    cover = λ y c le from has live.
        ⊎_elim
        (λ g. let f : c ≡ n = omega arith in absurd (never y le (rw f at has) (rw f at live)))
        (λ g. u.cover y c le (omega arith) has live)
        (split c n);
  }

  -- Drop: the front is not live, here and from here on
  pub drop_long_lem : {x lo h : ℕ} {q : List ℕ} → x + m < E h → Kept F E m Ok x lo (h ∷ q) → Kept F E m Ok x lo q
  drop_long_lem {x} {h = h} {q = q} long u = record {
    falls = u.falls.1;
    ok = u.ok.1;
    order = threes_tail (λ (a b c : ℕ). Ordered F E m x c b a) h q u.order;
    above = u.above.1;
    cover = λ y c le from has live. keep y c le (u.cover y c le from has live);
  }
    where
      keep : (y c : ℕ) → y ≤ x → Any (Wins F E m y c) (h ∷ q) → Any (Wins F E m y c) q
      keep y c le (inl w) = absurd (omega (arith, w.0))
      keep y c le (inr w) = w

  -- the candidate n comes
  pub come : {x lo n : ℕ} {q : List ℕ} → n + 1 ≡ lo → Ok n → Kept F E m Ok x lo q → Adding F E m Ok x n (reverse q)
  come {x} {lo} {n} {q} e has u = record {
    rises = pairs_reverse (λ (a b : ℕ). b < a) q u.falls;
    ok = every_reverse Ok q u.ok;
    order = threes_reverse (λ (a b c : ℕ). Ordered F E m x c b a) q u.order;
    above = every_reverse (λ (k : ℕ). n < k) q (every_map (λ (k : ℕ). lo ≤ k) (λ (k : ℕ). n < k) (λ k h. omega arith) q u.above);
    new = has;
    cover = λ y c le from hasc live.
        ⊎_elim
        (λ g. let f : n ≡ c = omega arith in inl (rw f live, subst (λ (k : ℕ). Beats F y n k) f (beats_refl F y n)))
        (λ g. inr (any_reverse (Wins F E m y c) q (u.cover y c le (omega arith) hasc live)))
        (split c n);
  }

  -- Add: the candidate n stands rightly before the rear and its neighbour
  pub add : {x n : ℕ} {q : List ℕ} → Threes (Ordered F E m x) (n ∷ q) → Adding F E m Ok x n q → Kept F E m Ok x n (reverse (n ∷ q))
  add {x} {n} {q} order u = record {
    falls = pairs_reverse (λ (a b : ℕ). a < b) (n ∷ q) (u.above, u.rises);
    ok = every_reverse Ok (n ∷ q) (u.new, u.ok);
    order = threes_reverse (Ordered F E m x) (n ∷ q) order;
    above = every_reverse (λ (k : ℕ). n ≤ k) (n ∷ q)
        (omega arith, every_map (λ (k : ℕ). n < k) (λ (k : ℕ). n ≤ k) (λ k h. omega arith) q u.above);
    cover = λ y c le from has live. any_reverse (Wins F E m y c) (n ∷ q) (u.cover y c le from has live);
  }

  module _ (laws : Laws F E Ok) where
    -- Drop: the one behind the front is no worse
    pub drop_worse_lem : {x lo h s : ℕ} {q : List ℕ} → F s x ≤ F h x → Kept F E m Ok x lo (h ∷ s ∷ q) → Kept F E m Ok x lo (s ∷ q)
    drop_worse_lem {x} {h = h} {s = s} {q = q} le u = record {
      falls = u.falls.1;
      ok = u.ok.1;
      order = threes_tail (λ (a b c : ℕ). Ordered F E m x c b a) h (s ∷ q) u.order;
      above = u.above.1;
      cover = λ y c yx from has live. keep y c yx (u.cover y c yx from has live);
    }
      where
        keep : (y c : ℕ) → y ≤ x → Any (Wins F E m y c) (h ∷ s ∷ q) → Any (Wins F E m y c) (s ∷ q)
        keep y c yx (inl w) =
            over F E m y c h (s ∷ q)
            (inl (nearer F E m laws y s h u.ok.1.0 u.ok.0 u.falls.0.0 w.0
            (laws.gain s h x y u.ok.1.0 u.ok.0 u.falls.0.0 yx le)))
            w.1
        keep y c yx (inr w) = w

    -- ---- Pop: at each position where the rear k is live, something that stays wins against it
    pop : {x n k : ℕ} {q : List ℕ} → ((y : ℕ) → y ≤ x → Live E m k y → Any (Wins F E m y k) (n ∷ q)) → Adding F E m Ok x n (k ∷ q) →
        Adding F E m Ok x n q
    pop {x} {n} {k} {q} stays u = record {
      rises = u.rises.1;
      ok = u.ok.1;
      order = threes_tail (Ordered F E m x) k q u.order;
      above = u.above.1;
      new = u.new;
      cover = λ y c le from has live. keep y c le (u.cover y c le from has live);
    }
      where
        keep : (y c : ℕ) → y ≤ x → Any (Wins F E m y c) (n ∷ k ∷ q) → Any (Wins F E m y c) (n ∷ q)
        keep y c le (inl w) = inl w
        keep y c le (inr (inl w)) = over F E m y c k (n ∷ q) (stays y le w.0) w.1
        keep y c le (inr (inr w)) = inr w

    -- the candidate is no worse than the rear
    pub pop_worse_lem : {x n k : ℕ} {q : List ℕ} → F n x ≤ F k x → Adding F E m Ok x n (k ∷ q) → Adding F E m Ok x n q
    pop_worse_lem {x} {n} {k} le u =
        pop
        (λ y yx live. inl (nearer F E m laws y n k u.new u.ok.0 u.above.0 live
        (laws.gain n k x y u.new u.ok.0 u.above.0 yx le)))
        u

    -- the rear is of no use between the candidate and its neighbour
    pub pop_useless : {x n k l : ℕ} {q : List ℕ} → Useless F E m x n k l → Adding F E m Ok x n (k ∷ l ∷ q) → Adding F E m Ok x n (l ∷ q)
    pop_useless {x} {n} {k} {l} {q} useless u = pop stays u
      where
        candidate : (y : ℕ) → y ≤ x → Live E m k y → (Live E m l y → F k y ≤ F l y) → Any (Wins F E m y k) (n ∷ l ∷ q)
        candidate y yx live h = inl (nearer F E m laws y n k u.new u.ok.0 u.above.0 live (useless y yx h))

        stays : (y : ℕ) → y ≤ x → Live E m k y → Any (Wins F E m y k) (n ∷ l ∷ q)
        stays y yx live =
            ⊎_elim
            (λ le. candidate y yx live (λ lives. le))
            (λ lt.
            ⊎_elim
            (λ lives. inr (inl (lives, inl lt)))
            (λ long. candidate y yx live (λ lives. absurd (omega arith)))
            (split (E l) (y + m)))
            (split (F k y) (F l y))

  -- ---- the choice
  -- The front is the choice: it beats every candidate that is live.
  pub front_least : {x lo h : ℕ} {q : List ℕ} → Kept F E m Ok x lo (h ∷ q) → Every (λ (k : ℕ). Live E m k x) (h ∷ q) → Leads F x (h ∷ q) →
      (c : ℕ) → lo ≤ c → Ok c → Live E m c x → Beats F x h c
  front_least {x} {h = h} {q = q} u live lt c from has alive = go (u.cover x c (omega arith) from has alive)
    where
      behind : Every (λ (k : ℕ). F h x < F k x) q
      behind = climb F E m x h q u.order live lt

      go : Any (Wins F E m x c) (h ∷ q) → Beats F x h c
      go (inl w) = w.1
      go (inr w) =
          any_gives (λ (k : ℕ). Wins F E m x c k × (F h x < F k x)) (λ k v. beats_trans F x h k c (inl v.1) v.0.1) q
          (any_every (Wins F E m x c) (λ (k : ℕ). F h x < F k x) (λ (k : ℕ). Wins F E m x c k × (F h x < F k x))
          (λ k v g. (v, g)) q w behind)

  -- An empty queue: no candidate is live.
  pub empty_none : {x lo : ℕ} → Kept F E m Ok x lo [] → (c : ℕ) → lo ≤ c → Ok c → ¬ Live E m c x
  empty_none {x} u c from has live = u.cover x c (omega arith) from has live
