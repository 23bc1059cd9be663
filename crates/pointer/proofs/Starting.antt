-- One start: the pointer, the choice, and the links. Assumes nothing.
use Rattle.std.proofs.Common.{◌≡◌, ℕ, List, set, subst, ◌∙◌, sym, ap, arith, get_or-set_same}
use Rattle.paper.specs.Moves.{Taken}
use Rattle.paper.specs.PointerRules.{Pointing, at_start}
use Rattle.pointer_theory.specs.Ready.{Pointed}
use Rattle.pointer_theory.proofs.Falls.{ready_falls}
use Rattle.pointer_theory.proofs.Ready.{ready_rises, ready_pointed}
use Rattle.pointer_theory.specs.Choice.{Choosing}
use Rattle.pointer_theory.proofs.Choice.{ready_choosing}
use Rattle.pointer.specs.declared.moves.Moves.{Moves}
use Rattle.pointer.specs.declared.start.Start.{Start}
use Rattle.pointer.specs.Held.{best_at, bests_size, bests_at, bests_more}
use Rattle.pointer.specs.Taking.{HasRoom, Took}
use Rattle.pointer.specs.Asks.{StartStrips, start_strips, text_of, pointing_from, joining}
use Rattle.pointer.specs.Asks.{JumpsAsk, JoinAsk, JoinCame, PointerSettleAsk, PointerSettled}
use Rattle.pointer.specs.Asks.{PointerStartAsk, PointerStarted, ApplyAsk, Applied}
use Rattle.pointer.proofs.Gaps.{start_size}
use Rattle.pointer.proofs.Joined.{join_room}
use Rattle.pointer.proofs.Taking.{room_first, room_next, took_both}

module _ {s : Start} {r : ℕ} {t : StartStrips} {m₀ : Moves} (a : PointerStartAsk s r t m₀) where
  abbrev points : Taken ℕ
  points = pointing_from s t.left r

  abbrev then : ℕ → Taken Pointing
  then = joining s t.left t.right

  pub start_points : JumpsAsk points s t.left r m₀
  unfolding at_start
  start_points = record {
    steps = record {
      page = record { above = a.ready.above; within = omega (arith, a.ready.within, start_size s) };
      room = room_first points then m₀ a.room;
    };
    lefts = record {
      size = omega (arith, a.ready.entries.left_length, start_size s);
      falls = ready_falls a.ready;
      from = λ k h g. (a.ready.entries.lefts k h (omega (arith, start_size s))).from;
    };
  }

  -- the rules came to q
  module _ {m : Moves} {q : ℕ} (took : Took points m₀ m q) where
    stood : Pointed s.limits (text_of s) s.i t.left q
    stood = subst (Pointed s.limits (text_of s) s.i t.left) took.ran.stands (ready_pointed a.ready)

    pub start_settles : PointerSettleAsk s t.best t.next q
    start_settles =
        let low = s.low in
        record {
          choice = record {
            page = record { above = stood.stepped.above; within = omega (arith, stood.stepped.within, start_size s) };
            size = omega (arith, bests_size a.bests, start_size s);
            is = bests_at a.bests q stood.stepped.above stood.stepped.within;
            allowed = stood.stepped.allowed;
            choosing = subst (λ (z : ℕ). Choosing s.limits (text_of s) s.i z) took.ran.stands
                (ready_choosing s.limits (text_of s) (omega (arith, start_size s)) a.ready);
          };
          next_size = a.next_size;
        }

    then_room : HasRoom (then q) m
    unfolding at_start
    then_room = room_next points then m₀ a.room took

    -- v is the best of the start
    module _ {v : ℕ} {C N : List ℕ} (settled : PointerSettled s t.best t.next v C N) where
      entered : C ≡ set t.best s.i (best_at s.limits (text_of s) s.i)
      entered = settled.best ∙ ap (set t.best s.i) settled.cost

      pub start_joins : JoinAsk s v C t.left t.right m
      start_joins =
          let low = s.low in
          let bests = bests_more a.bests s.i C (omega arith) (omega (arith, start_size s)) entered in
          record {
            links = λ pos. record {
              bests = bests;
              is = rw settled.best (sym (get_or-set_same t.best s.i v 0 (omega (arith, start_size s, bests_size a.bests))));
              left_size = omega (arith, a.ready.entries.left_length, bests_size bests);
              right_size = omega (arith, a.ready.entries.right_length, bests_size bests);
              rises = ready_rises a.ready;
              room = join_room s t.left t.right m q (omega arith) then_room;
            };
            began = omega (arith, then_room);
          }

      pub start_done : {left right : List ℕ} {n : Moves} → JoinCame s t.left t.right m left right n →
          PointerStarted s r t m₀ q (start_strips C N left right) n
      unfolding at_start
      start_done joins = record { took = took_both points then m₀ a.room took (joins.took q); best = entered; next = settled.next }

-- ---- a start that is lent the moves strip from the present count on, and takes its moves from its front
pub lent_ask : {s : Start} {r : ℕ} {t : StartStrips} {m : Moves} → ApplyAsk s r t m.strip.now → m.taken ≡ 0 → PointerStartAsk s r t m
lent_ask a none = record { ready = a.ready; bests = a.bests; next_size = a.next_size; room = omega (arith, a.room) }

pub lent_done : {s : Start} {r q : ℕ} {t u : StartStrips} {m₀ m : Moves} → PointerStarted s r t m₀ q u m → m₀.taken ≡ 0 →
    {M : List ℕ} → M ≡ m.strip.now → Applied s r t m₀.strip.now (record { at = q; moves = m.taken }) u M
lent_done d none back = record { ran = rw back (rw none at d.took.ran); best = d.best; next = d.next }
