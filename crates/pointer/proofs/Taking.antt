-- Moves taken one after the other, and rules one after the other. Assumes nothing.
use Rattle.std.proofs.Common.{◌≡◌, refl, ◌∙◌, ◌<◌, length, arith}
use Rattle.paper.specs.declared.Move.{Move}
use Rattle.paper.specs.Moves.{Taken, moved, still, joined}
use Rattle.strips.specs.Running.{Running, running_first, running_same, running_more, running_place, running_done, running_length}
use Rattle.strips.specs.Running.{ran_length, joined_first, joined_room, joined_ran}
use Rattle.pointer.specs.declared.moves.Moves.{Moves}
use Rattle.pointer.specs.Taking.{Put, HasRoom, Took}

-- of the whole, some moves are taken, and the rest is still to come
pub record Taking {A : Type 0} (whole rest : Taken A) (m₀ m : Moves) : Type 0 where
  pub run : Running whole rest m₀.taken m₀.strip.now m.strip.now m.taken
  pub same : m.strip.ghost_name ≡ m₀.strip.ghost_name

module _ {A : Type 0} {whole : Taken A} {m₀ : Moves} where
  pub taking_first : HasRoom whole m₀ → Taking whole whole m₀ m₀
  taking_first room = record { run = running_first whole m₀.taken m₀.strip.now (omega (arith, room)); same = refl }

  module _ {m : Moves} where
    pub taking_length : {rest : Taken A} → Taking whole rest m₀ m → length m.strip.now ≡ length m₀.strip.now
    taking_length t = running_length whole m₀.taken m₀.strip.now m.strip.now m.taken t.run

    -- the rest, said in another way
    pub taking_same : {rest more : Taken A} → rest ≡ more → Taking whole rest m₀ m → Taking whole more m₀ m
    taking_same e t = record { run = running_same whole m₀.taken m₀.strip.now m.strip.now m.taken e t.run; same = t.same }

    pub taking_done : {a : A} → Taking whole (still a) m₀ m → Took whole m₀ m a
    taking_done {a} t = record { ran = running_done whole m₀.taken m₀.strip.now m.strip.now m.taken a t.run; same = t.same }

    -- one move more
    module _ {mv : Move} {rest : Taken A} (t : Taking whole (moved mv rest) m₀ m) (room : HasRoom whole m₀) where
      place : m.taken < length m₀.strip.now
      place = running_place whole m₀.taken m₀.strip.now m.strip.now m.taken mv t.run room

      pub taking_place : m.taken < length m.strip.now
      taking_place = omega (arith, place, taking_length t)

      pub taking_more : {n : Moves} → Put m mv n → Taking whole rest m₀ n
      taking_more put = record {
        run = rw (put.is, put.count) (running_more whole m₀.taken m₀.strip.now m.strip.now m.taken mv t.run place);
        same = put.same ∙ t.same;
      }

-- ---- a rule, and then the next
module _ {A B : Type 0} (s : Taken A) (f : A → Taken B) (m₀ : Moves) (room : HasRoom (joined s f) m₀) where
  pub room_first : HasRoom s m₀
  room_first = joined_first s f m₀.taken (length m₀.strip.now) room

  module _ {m : Moves} {a : A} (first : Took s m₀ m a) where
    pub room_next : HasRoom (f a) m
    room_next =
        let kept =
        ran_length s m₀.taken m₀.strip.now m.strip.now m.taken a first.ran (omega (arith, first.ran.count, room_first)) in
        omega (arith, joined_room s f m₀.taken m₀.strip.now m.strip.now m.taken a first.ran room)

    pub took_both : {n : Moves} {b : B} → Took (f a) m n b → Took (joined s f) m₀ n b
    took_both {n} {b} next = record {
      ran =
          joined_ran s f m₀.taken m₀.strip.now m.strip.now m.taken a first.ran n.strip.now n.taken b
          (omega (arith, room_first)) next.ran;
      same = next.same ∙ first.same;
    }
