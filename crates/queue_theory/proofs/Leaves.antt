-- Rules 1 and 3 and both pops take members off one end of the queue, so what holds of every member, or of each two, holds still. For any
-- text. Assumes nothing.
use Rattle.std.specs.Prelude.{ℕ, ◌+◌, ◌<◌, ◌≡◌, refl, length}
use Rattle.std.proofs.Common.{ap, arith, length-append}
use Rattle.std.proofs.Math.Logic.{⊎_elim}
use mathlib.Core.List.{List, [], ◌∷◌, reverse}
use Rattle.std.proofs.lemmas.List.{length-map}
use Rattle.laws.specs.Number.{split, tested}
use Rattle.laws.specs.Members.{Every, every_right, every_reverse, Pairs, pairs_right, pairs_reverse, Falls, Rises}
use Rattle.paper.specs.declared.Kind.{Kind}
use Rattle.paper.specs.declared.Kind.TheVariants.{Drop, Pop}
use Rattle.paper.specs.declared.Move.{Move}
use Rattle.paper.specs.Moves.{Taken, move, moved, still}
use Rattle.paper.specs.QueueRules.{Text, F, bridged, drop_long, pop_worse, pop_bridged, add, drop_worse}
use Rattle.queue_theory.proofs.Turns.{drop_long_more, drop_long_stop, pop_worse_more, pop_worse_stop, pop_bridged_more, pop_bridged_stop}
use Rattle.queue_theory.proofs.Turns.{drop_worse_more, drop_worse_stop}
use Rattle.queue_theory.specs.Leaves.{Leaves}

leaves_all : (kind : Kind) (q : List ℕ) → Leaves kind q (still q)
leaves_all kind q = record { gone = []; named = refl; rest = refl }

leaves_more : (kind : Kind) (j : ℕ) (q : List ℕ) (r : Taken (List ℕ)) → Leaves kind q r → Leaves kind (j ∷ q) (moved (move kind j) r)
leaves_more kind j q r h = record {
  gone = j ∷ h.gone;
  named = ap (λ (m : List Move). move kind j ∷ m) h.named;
  rest = ap (λ (s : List ℕ). j ∷ s) h.rest;
}

module _ (t : Text) where
  pub drop_long_leaves : (i : ℕ) (q : List ℕ) → Leaves Drop q (drop_long t i q)
  unfolding drop_long
  drop_long_leaves i [] = leaves_all Drop []
  drop_long_leaves i (j ∷ q) =
      ⊎_elim
      (λ h. rw (drop_long_stop t i j q h) (leaves_all Drop (j ∷ q)))
      (λ h. rw (drop_long_more t i j q h) (leaves_more Drop j q (drop_long t i q) (drop_long_leaves i q)))
      (split (t.lines.line i j) t.lines.lmax)

  pub pop_worse_leaves : (i j : ℕ) (q : List ℕ) → Leaves Pop q (pop_worse t i j q)
  unfolding pop_worse
  pop_worse_leaves i j [] = leaves_all Pop []
  pop_worse_leaves i j (k ∷ q) =
      ⊎_elim
      (λ h. rw (pop_worse_more t i j k q h) (leaves_more Pop k q (pop_worse t i j q) (pop_worse_leaves i j q)))
      (λ h. rw (pop_worse_stop t i j k q h) (leaves_all Pop (k ∷ q)))
      (split (F t i j) (F t i k))

  pub pop_bridged_leaves : (j : ℕ) (q : List ℕ) → Leaves Pop q (pop_bridged t j q)
  unfolding pop_bridged
  pop_bridged_leaves j [] = leaves_all Pop []
  pop_bridged_leaves j (k ∷ []) = leaves_all Pop (k ∷ [])
  pop_bridged_leaves j (k ∷ l ∷ q) =
      ⊎_elim
      (λ e. rw (pop_bridged_more t j k l q e) (leaves_more Pop k (l ∷ q) (pop_bridged t j (l ∷ q)) (pop_bridged_leaves j (l ∷ q))))
      (λ e. rw (pop_bridged_stop t j k l q e) (leaves_all Pop (k ∷ l ∷ q)))
      (tested (bridged t j k l))

  pub drop_worse_leaves : (i : ℕ) (q : List ℕ) → Leaves Drop q (drop_worse t i q)
  unfolding drop_worse
  drop_worse_leaves i [] = leaves_all Drop []
  drop_worse_leaves i (j ∷ []) = leaves_all Drop (j ∷ [])
  drop_worse_leaves i (j ∷ k ∷ q) =
      ⊎_elim
      (λ h. rw (drop_worse_more t i j k q h) (leaves_more Drop j (k ∷ q) (drop_worse t i (k ∷ q)) (drop_worse_leaves i (k ∷ q))))
      (λ h. rw (drop_worse_stop t i j k q h) (leaves_all Drop (j ∷ k ∷ q)))
      (split (F t i k) (F t i j))

-- ---- what holds still
module _ (kind : Kind) (q : List ℕ) (r : Taken (List ℕ)) (h : Leaves kind q r) where
  pub leaves_every : (P : ℕ → Type 0) → Every P q → Every P r.stands
  leaves_every P e = every_right P h.gone r.stands (rw h.rest at e)

  pub leaves_pairs : (R : ℕ → ℕ → Type 0) → Pairs R q → Pairs R r.stands
  leaves_pairs R e = pairs_right R h.gone r.stands (rw h.rest at e)

  -- each member that goes takes one move
  pub leaves_length : length r.moves + length r.stands ≡ length q
  leaves_length =
      omega (arith, ap length h.named, length-map h.gone (move kind), ap length h.rest, length-append h.gone r.stands)

-- the same, rule by rule
module _ (t : Text) (P : ℕ → Type 0) where
  pub drop_long_every : (i : ℕ) (q : List ℕ) → Every P q → Every P (drop_long t i q).stands
  drop_long_every i q = leaves_every Drop q (drop_long t i q) (drop_long_leaves t i q) P

  pub pop_worse_every : (i j : ℕ) (q : List ℕ) → Every P q → Every P (pop_worse t i j q).stands
  pop_worse_every i j q = leaves_every Pop q (pop_worse t i j q) (pop_worse_leaves t i j q) P

  pub pop_bridged_every : (j : ℕ) (q : List ℕ) → Every P q → Every P (pop_bridged t j q).stands
  pop_bridged_every j q = leaves_every Pop q (pop_bridged t j q) (pop_bridged_leaves t j q) P

  pub drop_worse_every : (i : ℕ) (q : List ℕ) → Every P q → Every P (drop_worse t i q).stands
  drop_worse_every i q = leaves_every Drop q (drop_worse t i q) (drop_worse_leaves t i q) P

module _ (t : Text) (R : ℕ → ℕ → Type 0) where
  pub drop_long_pairs : (i : ℕ) (q : List ℕ) → Pairs R q → Pairs R (drop_long t i q).stands
  drop_long_pairs i q = leaves_pairs Drop q (drop_long t i q) (drop_long_leaves t i q) R

  pub pop_worse_pairs : (i j : ℕ) (q : List ℕ) → Pairs R q → Pairs R (pop_worse t i j q).stands
  pop_worse_pairs i j q = leaves_pairs Pop q (pop_worse t i j q) (pop_worse_leaves t i j q) R

  pub pop_bridged_pairs : (j : ℕ) (q : List ℕ) → Pairs R q → Pairs R (pop_bridged t j q).stands
  pop_bridged_pairs j q = leaves_pairs Pop q (pop_bridged t j q) (pop_bridged_leaves t j q) R

  pub drop_worse_pairs : (i : ℕ) (q : List ℕ) → Pairs R q → Pairs R (drop_worse t i q).stands
  drop_worse_pairs i q = leaves_pairs Drop q (drop_worse t i q) (drop_worse_leaves t i q) R

-- ---- the same of a candidate that is added
module _ (t : Text) (i j : ℕ) (q : List ℕ) where
  -- the queue from rear to front, after both pops
  popped : List ℕ
  popped = (pop_bridged t j (pop_worse t i j (reverse q)).stands).stands

  popped_every : (P : ℕ → Type 0) → Every P q → Every P popped
  unfolding popped
  popped_every P h =
      pop_bridged_every t P j (pop_worse t i j (reverse q)).stands (pop_worse_every t P i j (reverse q) (every_reverse P q h))

  popped_rises : Falls q → Rises popped
  unfolding popped
  popped_rises h =
      pop_bridged_pairs t (λ (a b : ℕ). a < b) j (pop_worse t i j (reverse q)).stands
      (pop_worse_pairs t (λ (a b : ℕ). a < b) i j (reverse q) (pairs_reverse (λ (a b : ℕ). b < a) q h))

  pub add_every : (P : ℕ → Type 0) → P j → Every P q → Every P (add t i j q).stands
  unfolding add popped
  add_every P new h = every_reverse P (j ∷ popped) (new, popped_every P h)

  pub add_falls : Every (λ (k : ℕ). j < k) q → Falls q → Falls (add t i j q).stands
  unfolding add popped
  add_falls below h = pairs_reverse (λ (a b : ℕ). a < b) (j ∷ popped) (popped_every (λ (k : ℕ). j < k) below, popped_rises h)
