-- The queue rules keep the queue of the laws: at each start every candidate considered is met or beaten by a member, and rule 3
-- leaves a front that is better than the next. Assumes nothing but what each law states.
use Prim.Native.Nat.{ℕ, zero, suc, ◌+◌, ◌-◌, ◌≤◌, ◌<◌}
use Rattle.std.specs.Prelude.{◌≡◌, refl}
use Rattle.std.proofs.Math.Logic.{⊎_elim}
use mathlib.Core.List.{List, [], ◌∷◌, reverse}
use native.Mathlib.Omega.{arith}
use Rattle.laws.specs.Number.{split, tested}
use Rattle.laws.specs.Members.{Every, every_reverse, Threes}
use Rattle.laws.specs.Queue.{Ordered, Leads, Adding}
use Rattle.laws.proofs.Queue.{nothing, later, pass, drop_long_lem, come, drop_worse_lem, pop_worse_lem, pop_useless}
use Rattle.laws.proofs.Queue as Laws
use Rattle.paper.specs.Moves.{Taken}
use Rattle.paper.specs.QueueRules.{Text, Standing, F, bridged, drop_long, pop_worse, pop_bridged, add, consider, candidates, drop_worse}
use Rattle.paper.specs.QueueRules.{settled, at_start, after_starts, queue_at}
use Rattle.queue_theory.specs.Scales.{Scaled}
use Rattle.queue_theory.proofs.Turns.{drop_long_more, drop_long_stop, pop_worse_more, pop_worse_stop, pop_bridged_more, pop_bridged_stop}
use Rattle.queue_theory.proofs.Turns.{candidates_more, candidates_stop, drop_worse_more, drop_worse_stop, consider_gives}
use Rattle.queue_theory.proofs.Leaves.{pop_worse_every}
use Rattle.queue_theory.specs.Ready.{Measured, Held, Stood}
use Rattle.queue_theory.proofs.Ready.{measured_apart, drop_long_held, considered_above, considered_live, consider_held, candidates_held}
use Rattle.queue_theory.proofs.Ready.{stood, stood_before}
use Rattle.queue_theory.specs.Curves.{Settable, G}
use Rattle.queue_theory.proofs.Curves.{F_is, laws, bridged_useless, bridged_ordered}
use Rattle.queue_theory.specs.Sound.{Sound}

-- the same from rear to front, while candidate j waits
abbrev Waits : {t : Text} → Scaled t → ℕ → ℕ → List ℕ → Type 0
Waits {t} s i j q = Adding (G s) s.E t.lines.lmax (Settable t) (s.T i) j q

module _ {t : Text} (s : Scaled t) {i : ℕ} (start : 1 ≤ i) where
  -- F at two breaks is G at two breaks
  to_curve : {j k : ℕ} → Measured t i j → Measured t i k → F t i j ≤ F t i k → G s j (s.T i) ≤ G s k (s.T i)
  to_curve {j} {k} u v h = omega (arith, F_is s i j start u, F_is s i k start v)

  measured_settable : {k : ℕ} → Measured t i k → Settable t k
  measured_settable v = record { from = omega (arith, v.above); within = v.within; has = v.has }

  -- ---- rule 1
  drop_long_sound : (lo : ℕ) (q : List ℕ) → Every (Measured t (i + 1)) q → Sound s i lo q → Sound s i lo (drop_long t i q).stands
  unfolding drop_long
  drop_long_sound lo [] v u = u
  drop_long_sound lo (h ∷ q) v u =
      ⊎_elim
      (λ short. rw (drop_long_stop t i h q short) u)
      (λ long. rw (drop_long_more t i h q long)
      (drop_long_sound lo q v.1 (drop_long_lem (omega (arith, s.line i h start (omega (arith, v.0.above)) v.0.within)) u)))
      (split (t.lines.line i h) t.lines.lmax)

  -- ---- rule 2
  pop_worse_sound : (j : ℕ) (q : List ℕ) → Measured t i j → Every (Measured t i) q → Waits s i j q → Waits s i j (pop_worse t i j q).stands
  unfolding pop_worse
  pop_worse_sound j [] new live u = u
  pop_worse_sound j (k ∷ q) new live u =
      ⊎_elim
      (λ worse. rw (pop_worse_more t i j k q worse)
      (pop_worse_sound j q new live.1 (pop_worse_lem (laws s) (to_curve new live.0 worse) u)))
      (λ better. rw (pop_worse_stop t i j k q better) u)
      (split (F t i j) (F t i k))

  pop_bridged_sound : (j : ℕ) (q : List ℕ) → Measured t i j → Every (Measured t i) q → Waits s i j q →
      Waits s i j (pop_bridged t j q).stands × Threes (Ordered (G s) s.E t.lines.lmax (s.T i)) (j ∷ (pop_bridged t j q).stands)
  unfolding pop_bridged
  pop_bridged_sound j [] new live u = (u, tt)
  pop_bridged_sound j (k ∷ []) new live u = (u, tt)
  pop_bridged_sound j (k ∷ m ∷ q) new live u =
      ⊎_elim
      (λ e. rw (pop_bridged_more t j k m q e)
      (pop_bridged_sound j (m ∷ q) new live.1 (pop_useless (laws s) (bridged_useless s j k m from jk km within near (s.T i) e) u)))
      (λ e. rw (pop_bridged_stop t j k m q e) (u, (bridged_ordered s j k m from jk km within near (s.T i) e, u.order)))
      (tested (bridged t j k m))
    where
      from : 1 ≤ j
      from = omega (arith, new.above)

      jk : j < k
      jk = u.above.0

      km : k < m
      km = u.rises.0.0

      within : m ≤ t.lines.end
      within = live.1.0.within

      near : t.apart j m + t.lines.lmin ≤ t.lines.lmax
      near = measured_apart s start (omega arith) new live.1.0

  add_sound : (j lo : ℕ) (q : List ℕ) → j + 1 ≡ lo → Measured t i j → Every (Measured t i) q → Sound s i lo q →
      Sound s i j (add t i j q).stands
  unfolding add
  add_sound j lo q e new live u =
      let r = (pop_worse t i j (reverse q)).stands in
      let turned = every_reverse (Measured t i) q live in
      let a = pop_worse_sound j (reverse q) new turned (come e (measured_settable new) u) in
      let b = pop_bridged_sound j r new (pop_worse_every t (Measured t i) i j (reverse q) turned) a in
      Laws.add b.1 b.0

  consider_sound : (j lo : ℕ) (q : List ℕ) → j + 1 ≡ lo → Held t i j q → t.lines.lmin ≤ t.lines.line i j → Sound s i lo q →
      Sound s i j (consider t i j q).stands
  consider_sound j lo q e h reach u =
      consider_gives t i j q (λ (r : Taken (List ℕ)). Sound s i j r.stands)
      (λ out. pass e (λ y yx b live. out (omega (arith, s.line i j start (considered_above s start h reach) h.within)) b.has) u)
      (λ high has. add_sound j lo q e (considered_live s start h reach high has) h.live u)

  candidates_sound : (c : ℕ) (q : List ℕ) → Held t i c q → Sound s i (c + 1) q →
      Sound s i ((candidates t i c q).stands.candidate + 1) (candidates t i c q).stands.queue
  candidates_sound zero q h u = absurd (omega (arith, h.near))
  candidates_sound (suc c) q h u =
      ⊎_elim
      (λ reach. let f : c + 1 ≡ suc c = omega arith in
      rw (candidates_more t i c (suc c) q f reach)
      (candidates_sound c (consider t i (suc c) q).stands (consider_held s start h reach c f)
      (rw f (consider_sound (suc c) (suc c + 1) q refl h reach u))))
      (λ short. rw (candidates_stop t i (suc c) q short) u)
      (split t.lines.lmin (t.lines.line i (suc c)))

  -- ---- rule 3
  drop_worse_sound : (lo : ℕ) (q : List ℕ) → Every (Measured t i) q → Sound s i lo q →
      Sound s i lo (drop_worse t i q).stands × Leads (G s) (s.T i) (drop_worse t i q).stands
  unfolding drop_worse
  drop_worse_sound lo [] live u = (u, tt)
  drop_worse_sound lo (h ∷ []) live u = (u, tt)
  drop_worse_sound lo (h ∷ k ∷ q) live u =
      ⊎_elim
      (λ worse. rw (drop_worse_more t i h k q worse)
      (drop_worse_sound lo (k ∷ q) live.1 (drop_worse_lem (laws s) (to_curve live.1.0 live.0 worse) u)))
      (λ better. rw (drop_worse_stop t i h k q better)
      (u, omega (arith, F_is s i h start live.0, F_is s i k start live.1.0)))
      (split (F t i k) (F t i h))

  -- ---- all rules of a start
  at_start_sound : (u : Standing) → i + 1 ≤ t.lines.end → Stood t (i + 1) u → Sound s (i + 1) (u.candidate + 1) u.queue →
      Sound s i ((at_start t i u).stands.candidate + 1) (at_start t i u).stands.queue × Leads (G s) (s.T i) (at_start t i u).stands.queue
  unfolding at_start settled
  at_start_sound u inside r v =
      let q = (drop_long t i u.queue).stands in
      let m = (candidates t i u.candidate q).stands in
      let h = drop_long_held s start u.candidate u.queue r.held in
      let w = drop_long_sound (u.candidate + 1) u.queue r.held.live
      (later (s.starts_rise i (i + 1) start (omega arith) inside) v) in
      drop_worse_sound (m.candidate + 1) m.queue (candidates_held s start u.candidate q h).held.live
      (candidates_sound u.candidate q h w)

-- ---- all starts
module _ {t : Text} (s : Scaled t) (n : ℕ) (size : t.lines.end ≡ n + 1) where
  sound : (d : ℕ) → d ≤ n → Sound s (n - d + 1) ((after_starts t n d).stands.candidate + 1) (after_starts t n d).stands.queue
  unfolding after_starts
  sound zero h = nothing (λ c low b. omega (arith, b.within, size))
  sound (suc d) h =
      let e : n - suc d + 1 ≡ n - d = omega arith in
      rw e
      (at_start_sound s (omega arith) (after_starts t n d).stands (omega (arith, size)) (stood s n size d (omega arith))
      (sound d (omega arith))).0

  -- after start i
  pub sound_after : (i : ℕ) → 1 ≤ i → i ≤ n →
      Sound s i ((queue_at t n i).stands.candidate + 1) (queue_at t n i).stands.queue × Leads (G s) (s.T i) (queue_at t n i).stands.queue
  unfolding queue_at
  sound_after i start h =
      let f : n - (n - i) ≡ i = omega arith in
      at_start_sound s start (after_starts t n (n - i)).stands (omega (arith, size)) (stood_before s n size i h)
      (rw f at (sound (n - i) (omega arith)))
