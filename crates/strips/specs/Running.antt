-- Moves written one after the other, from a place of the moves strip on: what is written is a rule's own record. Assumes nothing.
use Rattle.std.specs.Prelude.{ℕ, ◌+◌, ◌-◌, ◌≤◌, ◌<◌, ◌≡◌, refl, List, [], ◌∷◌, ◌++◌, map, length, take, drop, set}
use Rattle.std.proofs.Common.{ap, sym, subst, ◌∙◌, append_assoc, arith, length-append}
use borrow.Rule.Slice.PartMut.{put_mid}
use Rattle.std.proofs.lemmas.List.{append-nil, length-map, map-append}
use Rattle.laws.specs.Strip.{onward, onward_nil, onward_back, onward_onward, onward_set, length_onward}
use Rattle.paper.specs.declared.Move.{Move}
use Rattle.paper.specs.Moves.{code, Taken, still, moved, joined}

-- the moves of a rule, in the strip from place c on
abbrev pub written : ℕ → List Move → List ℕ → List ℕ
written c ms m = onward c (map code ms) m

-- moves already taken, then those of the rest
abbrev pub after : {A : Type 0} → List Move → Taken A → Taken A
after ms r = record { moves = ms ++ r.moves; stands = r.stands }

-- of the whole, which began at place c, some moves are written to the strip up to place k, and the rest is still to come
pub record Running {A : Type 0} (whole rest : Taken A) (c : ℕ) (m₀ m : List ℕ) (k : ℕ) : Type 0 where
  pub done : List Move
  pub is : m ≡ written c done m₀
  pub count : k ≡ c + length done
  pub so_far : whole ≡ after done rest
  pub fits : k ≤ length m₀

-- all moves of a rule are written, from place c up to place k, and a stands
pub record Ran {A : Type 0} (whole : Taken A) (c : ℕ) (m₀ m : List ℕ) (k : ℕ) (a : A) : Type 0 where
  pub moves : m ≡ written c whole.moves m₀
  pub count : k ≡ c + length whole.moves
  pub stands : whole.stands ≡ a

pub map_append : (xs ys : List Move) → map code (xs ++ ys) ≡ map code xs ++ map code ys
map_append = map-append code

pub length_codes : (ms : List Move) → length (map code ms) ≡ length ms
length_codes ms = length-map ms code

-- the moves of one rule, and then those of the next
pub written_after : (c : ℕ) (ms ns : List Move) (m : List ℕ) (k : ℕ) → k ≡ c + length ms → c ≤ length m →
    written k ns (written c ms m) ≡ written c (ms ++ ns) m
written_after c ms ns m k e h =
    onward_onward c (map code ms) m h (map code ns) k (omega (arith, e, length_codes ms))
    ∙ ap (λ (l : List ℕ). onward c l m) (sym (map_append ms ns))

module _ {A : Type 0} (whole : Taken A) (c : ℕ) (m₀ : List ℕ) where
  pub running_first : c ≤ length m₀ → Running whole whole c m₀ m₀ c
  running_first h = record { done = []; is = sym (onward_nil c m₀ h); count = omega arith; so_far = refl; fits = h }

  module _ (m : List ℕ) (k : ℕ) where
    began : {rest : Taken A} → Running whole rest c m₀ m k → c ≤ length m₀
    began r = omega (arith, r.count, r.fits)

    pub running_length : {rest : Taken A} → Running whole rest c m₀ m k → length m ≡ length m₀
    running_length r =
        ap length r.is
        ∙ length_onward c (map code r.done) m₀ (began r) (omega (arith, r.fits, r.count, length_codes r.done))

    -- the rest, said in another way
    pub running_same : {rest more : Taken A} → rest ≡ more → Running whole rest c m₀ m k → Running whole more c m₀ m k
    running_same e r = record { done = r.done; is = r.is; count = r.count; so_far = r.so_far ∙ ap (after r.done) e; fits = r.fits }

    -- another rule, which comes first in the rest, went on in the strip
    pub running_rule : {B : Type 0} (s : Taken B) (f : B → Taken A) (n : List ℕ) (k' : ℕ) (b : B) → Running whole (joined s f) c m₀ m k →
        Ran s k m n k' b → k' ≤ length m₀ → Running whole (f b) c m₀ n k'
    running_rule s f n k' b r t room =
        subst (λ b. Running whole (f b) c m₀ n k') t.stands
        (record {
          done = r.done ++ s.moves;
          is = t.moves ∙ ap (written k s.moves) r.is ∙ written_after c r.done s.moves m₀ k r.count (began r);
          count = simp length-append (omega (arith, r.count, t.count));
          so_far = r.so_far
              ∙ ap (λ (l : List Move). record { moves = l; stands = (f s.stands).stands })
              (sym (append_assoc r.done s.moves (f s.stands).moves));
          fits = room;
        })

    -- one move more
    pub running_more : {rest : Taken A} (mv : Move) → Running whole (moved mv rest) c m₀ m k → k < length m₀ →
        Running whole rest c m₀ (set m k (code mv)) (k + 1)
    running_more {rest} mv r room = record {
      done = r.done ++ (mv ∷ []);
      is = ap (λ (l : List ℕ). set l k (code mv)) r.is
          ∙ onward_set c (map code r.done) m₀ (began r) (code mv) k (omega (arith, r.count, length_codes r.done)) room
          ∙ ap (λ (l : List ℕ). onward c l m₀) (sym (map_append r.done (mv ∷ [])));
      count = simp length-append (omega (arith, r.count));
      so_far = r.so_far
          ∙ ap (λ (l : List Move). record { moves = l; stands = rest.stands }) (sym (append_assoc r.done (mv ∷ []) rest.moves));
      fits = omega arith;
    }

    -- a rule whose moves have room has room for each
    pub running_place : {rest : Taken A} (mv : Move) → Running whole (moved mv rest) c m₀ m k →
        c + length whole.moves ≤ length m₀ → k < length m₀
    running_place {rest} mv r room =
        omega (arith, r.count, ap (λ (t : Taken A). length t.moves) r.so_far, length-append r.done (mv ∷ rest.moves))

    -- nothing is left to come
    pub running_done : (a : A) → Running whole (still a) c m₀ m k → Ran whole c m₀ m k a
    running_done a r =
        let e : whole.moves ≡ r.done = ap (λ (t : Taken A). t.moves) r.so_far ∙ append-nil r.done in
        record {
          moves = r.is ∙ ap (λ (l : List Move). written c l m₀) (sym e);
          count = r.count ∙ ap (λ (l : List Move). c + length l) (sym e);
          stands = ap (λ (t : Taken A). t.stands) r.so_far;
        }

pub ran_length : {A : Type 0} (whole : Taken A) (c : ℕ) (m₀ m : List ℕ) (k : ℕ) (a : A) → Ran whole c m₀ m k a → k ≤ length m₀ →
    length m ≡ length m₀
ran_length whole c m₀ m k a r room =
    ap length r.moves
    ∙ length_onward c (map code whole.moves) m₀ (omega (arith, r.count)) (omega (arith, r.count, length_codes whole.moves))

-- A rule was lent the part of the strip from place k on: in the whole it went on from there.
pub ran_lent : {A : Type 0} (whole : Taken A) (k : ℕ) (m n : List ℕ) (u : ℕ) (a : A) → k ≤ length m →
    Ran whole 0 (take (length m - k) (drop k m)) n u a → Ran whole k m (put_mid k (length m - k) m n) (k + u) a
ran_lent whole k m n u a h r = record {
  moves = onward_back k (map code whole.moves) m n h r.moves;
  count = omega (arith, r.count);
  stands = r.stands;
}

-- ---- a rule, and then the next
pub joined_first : {A B : Type 0} (s : Taken A) (f : A → Taken B) (c room : ℕ) → c + length (joined s f).moves ≤ room →
    c + length s.moves ≤ room
joined_first s f c room h = omega (arith, length-append s.moves (f s.stands).moves)

module _ {A B : Type 0} (s : Taken A) (f : A → Taken B) (c : ℕ) (m₀ m : List ℕ) (k : ℕ) (a : A) (first : Ran s c m₀ m k a) where
  pub joined_room : c + length (joined s f).moves ≤ length m₀ → k + length (f a).moves ≤ length m₀
  joined_room room = rw (← first.stands) (omega (arith, first.count, length-append s.moves (f s.stands).moves))

  pub joined_ran : (n : List ℕ) (k' : ℕ) (b : B) → c ≤ length m₀ → Ran (f a) k m n k' b → Ran (joined s f) c m₀ n k' b
  joined_ran n k' b h =
      rw (← first.stands) (λ second. record {
        moves = second.moves
            ∙ ap (written k (f s.stands).moves) first.moves
            ∙ written_after c s.moves (f s.stands).moves m₀ k first.count h;
        count = simp length-append (omega (arith, first.count, second.count));
        stands = second.stands;
      })
