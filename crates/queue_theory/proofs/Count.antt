-- How many moves the queue rules take: each candidate is passed or added once, and an added one leaves once, so that a
-- paragraph takes at most 2n. For any text, but for the last theorem. Assumes nothing but what each law states.
use Prim.Native.Nat.{ℕ, zero, suc, ◌+◌, ◌-◌, ◌*◌, ◌≤◌}
use Rattle.std.specs.Prelude.{◌≡◌, List, reverse, length}
use Rattle.std.proofs.Math.Logic.{⊎_elim}
use native.Mathlib.Omega.{arith}
use Rattle.std.proofs.Math.ListN.{length-append, length-reverse}
use Rattle.laws.specs.Number.{split}
use Rattle.paper.specs.declared.Kind.TheVariants.{Drop, Pop}
use Rattle.paper.specs.Moves.{Taken}
use Rattle.paper.specs.QueueRules.{Text, Standing, drop_long, pop_worse, pop_bridged, add, consider, candidates, drop_worse, settled}
use Rattle.paper.specs.QueueRules.{at_start, after_starts}
use Rattle.queue_theory.proofs.Turns.{candidates_more, candidates_stop, consider_gives}
use Rattle.queue_theory.proofs.Leaves.{leaves_length, drop_long_leaves, pop_worse_leaves, pop_bridged_leaves, drop_worse_leaves}

module _ (t : Text) where
  -- ---- rule by rule: the moves, with who stands, against who stood
  pub drop_long_count : (i : ℕ) (q : List ℕ) → length (drop_long t i q).moves + length (drop_long t i q).stands ≡ length q
  drop_long_count i q = leaves_length Drop q (drop_long t i q) (drop_long_leaves t i q)

  pub pop_worse_count : (i j : ℕ) (q : List ℕ) → length (pop_worse t i j q).moves + length (pop_worse t i j q).stands ≡ length q
  pop_worse_count i j q = leaves_length Pop q (pop_worse t i j q) (pop_worse_leaves t i j q)

  pub pop_bridged_count : (j : ℕ) (q : List ℕ) → length (pop_bridged t j q).moves + length (pop_bridged t j q).stands ≡ length q
  pop_bridged_count j q = leaves_length Pop q (pop_bridged t j q) (pop_bridged_leaves t j q)

  pub drop_worse_count : (i : ℕ) (q : List ℕ) → length (drop_worse t i q).moves + length (drop_worse t i q).stands ≡ length q
  drop_worse_count i q = leaves_length Drop q (drop_worse t i q) (drop_worse_leaves t i q)

  -- the candidate's own move, and the candidate itself
  pub add_count : (i j : ℕ) (q : List ℕ) → length (add t i j q).moves + length (add t i j q).stands ≡ length q + 2
  unfolding add
  add_count i j q =
      let a = pop_worse t i j (reverse q) in
      let b = pop_bridged t j a.stands in
      simp (length-append, length-reverse) (omega (arith, pop_worse_count i j (reverse q), pop_bridged_count j a.stands, length-reverse q))

  pub consider_count : (i j : ℕ) (q : List ℕ) → length (consider t i j q).moves + length (consider t i j q).stands ≤ length q + 2
  consider_count i j q =
      consider_gives t i j q (λ (r : Taken (List ℕ)). length r.moves + length r.stands ≤ length q + 2)
      (λ out. omega arith)
      (λ high has. omega (arith, add_count i j q))

  -- each candidate that is considered makes room for two moves
  pub candidates_count : (i c : ℕ) (q : List ℕ) →
      length (candidates t i c q).moves + length (candidates t i c q).stands.queue + 2 * (candidates t i c q).stands.candidate
      ≤ length q + 2 * c
  unfolding candidates
  candidates_count i zero q = omega arith
  candidates_count i (suc c) q =
      ⊎_elim
      (λ reach. let r = consider t i (suc c) q in
      rw (candidates_more t i c (suc c) q (omega arith) reach)
      (simp length-append (omega (arith, consider_count i (suc c) q, candidates_count i c r.stands))))
      (λ short. rw (candidates_stop t i (suc c) q short) (omega arith))
      (split t.lines.lmin (t.lines.line i (suc c)))

  pub at_start_count : (i : ℕ) (s : Standing) →
      length (at_start t i s).moves + length (at_start t i s).stands.queue + 2 * (at_start t i s).stands.candidate ≤ length s.queue
      + 2 * s.candidate
  unfolding at_start settled
  at_start_count i s =
      let a = drop_long t i s.queue in
      let b = candidates t i s.candidate a.stands in
      simp length-append (omega (
        arith,
        drop_long_count i s.queue,
        candidates_count i s.candidate a.stands,
        drop_worse_count i
            b.stands.queue,
      ))

  pub after_starts_count : (n d : ℕ) →
      length (after_starts t n d).moves + length (after_starts t n d).stands.queue + 2 * (after_starts t n d).stands.candidate ≤ 2 * (n + 1)
  unfolding after_starts
  after_starts_count n zero = omega arith
  after_starts_count n (suc d) =
      let a = after_starts t n d in
      simp length-append (omega (arith, after_starts_count n d, at_start_count (n - d) a.stands))
