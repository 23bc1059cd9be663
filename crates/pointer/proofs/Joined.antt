-- What the linking leaves: "the k reached becomes the right of i". Assumes nothing.
use Rattle.std.proofs.Common.{◌≡◌, refl, ap, ℕ, zero, suc, ◌≤◌, List, length, set, arith}
use Rattle.laws.specs.Strip.{append_nil}
use Rattle.paper.specs.declared.Move.{Move}
use Rattle.paper.specs.Moves.{Taken}
use Rattle.paper.specs.PointerRules.{Pages, Linked, links, Pointing, linked}
use Rattle.pointer.specs.declared.moves.Moves.{Moves}
use Rattle.pointer.specs.declared.start.Start.{Start}
use Rattle.pointer.specs.Taking.{HasRoom}
use Rattle.pointer.specs.Asks.{text_of, pages_at, linking, joining, LinksCame, JoinCame}
use Rattle.pointer.proofs.Taking.{taking_first, taking_done}

-- past 0 the links are all the moves
abbrev linked_by : Taken Linked → List ℕ → ℕ → ℕ → Taken Pointing
linked_by t right i r =
    record { moves = t.moves; stands = record { pointer = r; left = t.stands.left; right = set right i t.stands.reached } }

linked_past : (p : Pages) (n i : ℕ) (left right : List ℕ) (r : ℕ) → ¬ (i ≡ 0) →
    linked p n i left right r ≡ linked_by (links p i right n (suc i) left) right i r
unfolding linked
linked_past p n zero left right r pos = absurd (pos refl)
linked_past p n (suc i) left right r pos =
    let t = links p (suc i) right n (suc (suc i)) left in
    ap (λ (ms : List Move). record { moves = ms; stands = (linked_by t right (suc i) r).stands }) (append_nil t.moves)

pub join_room : (s : Start) (left right : List ℕ) (m : Moves) (r : ℕ) → ¬ (s.i ≡ 0) → HasRoom (joining s left right r) m →
    HasRoom (linking s left right) m
join_room s left right m r pos room =
    let same = ap (λ (t : Taken Pointing). length t.moves) (linked_past (pages_at s) (length (text_of s)) s.i left right r pos) in
    omega (arith, room)

module _ (s : Start) {left right : List ℕ} where
  -- nothing is linked for 0
  pub join_none : {m : Moves} → m.taken ≤ length m.strip.now → s.i ≡ 0 → JoinCame s left right m left right m
  unfolding linked
  join_none h e = record { took = λ r. rw e (taking_done (taking_first (omega arith))) }

  pub join_some : {B : List ℕ} {m₀ : Moves} {k : ℕ} {left' : List ℕ} {m : Moves} → ¬ (s.i ≡ 0) →
      LinksCame s B left right m₀ k left' m → JoinCame s left right m₀ left' (set right s.i k) m
  join_some pos came = record {
    took = λ r. rw (linked_past (pages_at s) (length (text_of s)) s.i left right r pos)
        (record {
          ran = record {
            moves = came.took.ran.moves;
            count = came.took.ran.count;
            stands = ap (λ (l : Linked). record { pointer = r; left = l.left; right = set right s.i l.reached }) came.took.ran.stands;
          };
          same = came.took.same;
        });
  }
