-- The queue rules keep what stands before each start and within it, and what moves they take by then. Assumes nothing but what each law
-- states.
use Prim.Native.Nat.{ℕ, zero, suc, ◌+◌, ◌-◌, ◌*◌, ◌≤◌, ◌<◌}
use Rattle.std.specs.Prelude.{◌≡◌, length}
use Rattle.std.proofs.Math.Logic.{⊎_elim}
use mathlib.Core.List.{List, [], ◌∷◌}
use native.Mathlib.Omega.{arith}
use Rattle.laws.specs.Number.{split}
use Rattle.laws.specs.Cost.{Has}
use Rattle.laws.specs.Members.{Every, every_map, every_map2, Falls}
use Rattle.paper.specs.Moves.{Taken}
use Rattle.paper.specs.QueueRules.{Text, Standing, drop_long, consider, candidates, drop_worse, settled, at_start, after_starts, queue_at}
use Rattle.queue_theory.specs.Scales.{Scaled}
use Rattle.queue_theory.proofs.Scales.{line_longer, line_shorter, line_joins, line_some}
use Rattle.queue_theory.proofs.Turns.{drop_long_more, drop_long_stop, candidates_more, candidates_stop, consider_gives}
use Rattle.queue_theory.proofs.Leaves.{add_every, add_falls, drop_long_every, drop_worse_every, drop_long_pairs, drop_worse_pairs}
use Rattle.queue_theory.proofs.Count.{after_starts_count}
use Rattle.queue_theory.specs.Ready.{Measured, Held, Stood}

-- two breaks measured at one start lie within lmax - lmin of each other
pub measured_apart : {t : Text} → Scaled t → {i j k : ℕ} → 1 ≤ i → j ≤ k → Measured t i j → Measured t i k →
    t.apart j k + t.lines.lmin ≤ t.lines.lmax
measured_apart s {i} {j} {k} start jk u v = omega (arith, line_joins s i j k start u.above jk v.within, u.low, v.high)

module _ {t : Text} (s : Scaled t) {i : ℕ} (start : 1 ≤ i) where
  -- ---- rule 1: who was measured at the start before is long enough at i, and the front's line bounds the others
  drop_long_live : (q : List ℕ) → Falls q → Every (Measured t (i + 1)) q → Every (Measured t i) (drop_long t i q).stands
  unfolding drop_long
  drop_long_live [] f e = tt
  drop_long_live (j ∷ q) f e =
      ⊎_elim
      (λ short. rw (drop_long_stop t i j q short)
      (every_map2 (λ (k : ℕ). k ≤ j) (Measured t (i + 1)) (Measured t i) (nearer short) (j ∷ q)
      (omega arith, every_map (λ (k : ℕ). k < j) (λ (k : ℕ). k ≤ j) (λ k lt. omega arith) q f.0) e))
      (λ long. rw (drop_long_more t i j q long) (drop_long_live q f.1 e.1))
      (split (t.lines.line i j) t.lines.lmax)
    where
      nearer : t.lines.line i j ≤ t.lines.lmax → (k : ℕ) → k ≤ j → Measured t (i + 1) k → Measured t i k
      nearer short k kj v = record {
        above = omega (arith, v.above);
        within = v.within;
        has = v.has;
        low = omega (arith, v.low, line_shorter s i (i + 1) k start (omega arith) (omega (arith, v.above)) v.within);
        high = omega (arith, line_longer s i k j start (omega (arith, v.above)) kj e.0.within);
      }

  pub drop_long_held : (c : ℕ) (q : List ℕ) → Held t (i + 1) c q → Held t i c (drop_long t i q).stands
  drop_long_held c q r = record {
    near = omega (arith, r.near);
    within = r.within;
    falls = drop_long_pairs t (λ (a b : ℕ). b < a) i q r.falls;
    below = drop_long_every t (λ (k : ℕ). c < k) i q r.below;
    live = drop_long_live q r.falls r.live;
  }

  -- ---- rule 2, one candidate
  module _ {j : ℕ} {q : List ℕ} (r : Held t i j q) (reach : t.lines.lmin ≤ t.lines.line i j) where
    -- a candidate that is considered is above the start
    pub considered_above : i < j
    considered_above = line_some s i j start r.near (omega (arith, s.positive))

    pub considered_live : t.lines.line i j ≤ t.lines.lmax → Has (t.best j) → Measured t i j
    considered_live high has = record { above = considered_above; within = r.within; has = has; low = reach; high = high }

    module _ (c : ℕ) (e : c + 1 ≡ j) where
      still_below : Every (λ (k : ℕ). c < k) q
      still_below = every_map (λ (k : ℕ). j < k) (λ (k : ℕ). c < k) (λ k lt. omega arith) q r.below

      pub consider_held : Held t i c (consider t i j q).stands
      consider_held =
          consider_gives t i j q (λ (r : Taken (List ℕ)). Held t i c r.stands)
          (λ out. record {
            near = omega (arith, considered_above);
            within = omega (arith, r.within);
            falls = r.falls;
            below = still_below;
            live = r.live;
          })
          (λ high has. record {
            near = omega (arith, considered_above);
            within = omega (arith, r.within);
            falls = add_falls t i j q r.below r.falls;
            below = add_every t i j q (λ (k : ℕ). c < k) (omega arith) still_below;
            live = add_every t i j q (Measured t i) (considered_live high has) r.live;
          })

  -- all of them
  pub candidates_held : (c : ℕ) (q : List ℕ) → Held t i c q → Stood t i (candidates t i c q).stands
  candidates_held zero q r = absurd (omega (arith, r.near))
  candidates_held (suc c) q r =
      ⊎_elim
      (λ reach. rw (candidates_more t i c (suc c) q (omega arith) reach)
      (candidates_held c (consider t i (suc c) q).stands (consider_held r reach c (omega arith))))
      (λ short. rw (candidates_stop t i (suc c) q short) (record { held = r; short = short }))
      (split t.lines.lmin (t.lines.line i (suc c)))

  -- ---- rule 3
  drop_worse_held : (c : ℕ) (q : List ℕ) → Held t i c q → Held t i c (drop_worse t i q).stands
  drop_worse_held c q r = record {
    near = r.near;
    within = r.within;
    falls = drop_worse_pairs t (λ (a b : ℕ). b < a) i q r.falls;
    below = drop_worse_every t (λ (k : ℕ). c < k) i q r.below;
    live = drop_worse_every t (Measured t i) i q r.live;
  }

  -- ---- all rules of a start
  pub at_start_stood : (u : Standing) → Stood t (i + 1) u → Stood t i (at_start t i u).stands
  unfolding at_start settled
  at_start_stood u r =
      let q = (drop_long t i u.queue).stands in
      let m = (candidates t i u.candidate q).stands in
      let h = candidates_held u.candidate q (drop_long_held u.candidate u.queue r.held) in
      record { held = drop_worse_held m.candidate m.queue h.held; short = h.short }

-- ---- all starts: n of them, and n + 1 is the end
module _ {t : Text} (s : Scaled t) (n : ℕ) (size : t.lines.end ≡ n + 1) where
  -- what stands after d starts stood at the last of them, n - d + 1; before the first nothing does
  pub stood : (d : ℕ) → d ≤ n → Stood t (n - d + 1) (after_starts t n d).stands
  unfolding after_starts
  stood zero h =
      let e : n - 0 + 1 ≡ n + 1 = omega arith in
      rw e (record {
        held = record { near = omega arith; within = omega (arith, size); falls = tt; below = tt; live = tt };
        short = omega (arith, s.empty (n + 1) (omega arith), s.positive);
      })
  stood (suc d) h =
      let e : n - suc d + 1 ≡ n - d = omega arith in
      rw e (at_start_stood s (omega arith) (after_starts t n d).stands (stood d (omega arith)))

  -- before start i
  pub stood_before : (i : ℕ) → i ≤ n → Stood t (i + 1) (after_starts t n (n - i)).stands
  stood_before i h = let e : n - (n - i) ≡ i = omega arith in rw e at (stood (n - i) (omega arith))

  -- after start i
  pub stood_after : (i : ℕ) → 1 ≤ i → i ≤ n → Stood t i (queue_at t n i).stands
  unfolding queue_at
  stood_after i start h = at_start_stood s start (after_starts t n (n - i)).stands (stood_before i h)

  -- the moves of the first d starts
  pub moves_so_far : (d : ℕ) → d ≤ n → length (after_starts t n d).moves ≤ 2 * n
  moves_so_far d h = omega (arith, after_starts_count t n d, (stood d h).held.near)
