-- Edges and worked moves of 01 and of 02's requests, computed from the definitions. Assumes nothing.
use Rattle.std.specs.Prelude.{ℕ, ◌+◌, ◌-◌, ◌^◌, ◌≡◌, refl, true, false, List, [], ◌∷◌, map, length, replicate}
use Rattle.laws.specs.Cost.{none as no_setting}
use Rattle.laws.specs.Setting.{total}
use Rattle.laws.specs.Square.{sqd}
use Rattle.paper.specs.declared.Refusal.TheVariants.{Empty, Many, Limits as BadLimits, Length, Room}
use Rattle.std.specs.Prelude.{Ok, Some, None, Err}
use Rattle.paper.specs.Paragraph.{paragraph, penalty, best, chosen_next}
use Rattle.paper.specs.declared.Limits.{Limits}
use Rattle.paper.specs.Allowed.{edition_limits as edition, spaced_limits as spaced, limits_of as limits, page_limits_of as pages}
use Rattle.paper.specs.Allowed.{last_holds, limits_hold, page_limits_hold}
use Rattle.paper.specs.Told.{Checked}
use Rattle.std.specs.Prelude.{Ok, Err}
use Rattle.paper.specs.Told.{checked, penalty_alone}
use Rattle.paper.specs.Moves.{code}
use Rattle.paper.specs.Computes.{strips_compute, paragraph_computes, index_computes}
use Rattle.paper.specs.QueueRules.{Text, text_of, front_next, taken_best, taken_next, queue_at, queue_moves}
use Rattle.paper.specs.PointerRules.{pointer_moves}
use Rattle.paper.specs.Strips.{entries, best_entry}

-- ---- limits: what each set of them is said to be
pub limit_edges : map limits_hold (
    limits 1 6 4095 1 ∷ limits 1 6 4096 1 ∷ limits 1 6 6 0 ∷ limits 1 6 6 16 ∷ limits 1 6 6 15
    ∷ limits 6 6 6 1 ∷ limits 0 6 6 1 ∷ limits 3 2 6 1 ∷ limits 3 7 6 1 ∷ spaced 1 6 6 1 255 ∷ spaced 1 6 6 1 256 ∷ [])
    ≡ true ∷ false ∷ false ∷ false ∷ true ∷ false ∷ false ∷ false ∷ false ∷ true ∷ false ∷ []
unfolding limits_hold last_holds
limit_edges = refl

-- W-205: "lastmin above lopt, or not 0 under edition 1, or an edition but 1 or 2, is LIMITS"
pub last_edges : map limits_hold (
    edition 1 6 6 1 0 1 0 ∷ edition 1 6 6 1 0 1 1 ∷ edition 1 6 6 1 0 2 0 ∷ edition 1 6 6 1 0 2 6 ∷ edition 1 6 6 1 0 2 7
    ∷ edition 1 6 6 1 0 0 0 ∷ edition 1 6 6 1 0 0 6 ∷ edition 1 6 6 1 0 3 0 ∷ edition 1 6 6 1 0 3 6 ∷ [])
    ≡ true ∷ false ∷ true ∷ true ∷ false ∷ false ∷ false ∷ false ∷ false ∷ []
unfolding limits_hold last_holds
last_edges = refl

pub page_limit_edges : map page_limits_hold (pages 0 65535 ∷ pages 0 65536 ∷ pages 7 7 ∷ pages 6 7 ∷ pages 8 7 ∷ [])
    ≡ true ∷ false ∷ false ∷ true ∷ false ∷ []
unfolding page_limits_hold
page_limit_edges = refl

-- ---- lengths and their number, with limits that hold and no strip too short
abbrev given : List ℕ → Checked
given ws = checked true 0 ws [] []

pub length_edges : map given ([] ∷ (4095 ∷ []) ∷ (3 ∷ 4096 ∷ 0 ∷ []) ∷ (3 ∷ 2 ∷ 0 ∷ []) ∷ replicate 4096 1 ∷ replicate 4097 1 ∷ [])
    ≡ Err Empty ∷ (Ok tt) ∷ Err (Length 2) ∷ Err (Length 3) ∷ (Ok tt) ∷ Err Many ∷ []
unfolding strips_compute
length_edges = refl

-- W-202: with space 3, "a length not above the space is LENGTH"
pub space_edges : map (λ (ws : List ℕ). checked true 3 ws [] []) ((4 ∷ []) ∷ (4 ∷ 3 ∷ 2 ∷ []) ∷ (4 ∷ 0 ∷ []) ∷ (4095 ∷ 4096 ∷ []) ∷ [])
    ≡ Ok tt ∷ Err (Length 2) ∷ Err (Length 2) ∷ Err (Length 2) ∷ []
unfolding strips_compute
space_edges = refl

-- EMPTY comes before LIMITS, MANY before LIMITS, and LIMITS before LENGTH.
pub refusal_order : map (λ (ws : List ℕ). checked false 0 ws [] []) ([] ∷ replicate 4097 0 ∷ (0 ∷ []) ∷ [])
    ≡ Err Empty ∷ Err Many ∷ Err BadLimits ∷ []
unfolding strips_compute
refusal_order = refl

-- LENGTH comes before ROOM, which tells the first strip that is too short.
pub room_edges : map (λ (ws : List ℕ). checked true 0 ws (2 ∷ 1 ∷ 0 ∷ []) (2 ∷ 2 ∷ 2 ∷ [])) ((0 ∷ []) ∷ (3 ∷ []) ∷ [])
    ≡ Err (Length 1) ∷ Err (Room 2) ∷ []
unfolding strips_compute
room_edges = refl

-- ---- W-204: the penalty alone, at the edges of the measure and of what may be asked. LIMITS comes before LENGTH, LENGTH before "outside".
pub penalty_edges : map (penalty_alone (limits 6 8 10 15)) (5 ∷ 6 ∷ 8 ∷ 10 ∷ 11 ∷ 0 ∷ 16773120 ∷ 16773121 ∷ [])
    ≡ Ok None ∷ Ok (Some 60) ∷ Ok (Some 0) ∷ Ok (Some 60) ∷ Ok None ∷ Ok None ∷ Ok None ∷ Err (Length 0) ∷ []
unfolding penalty_alone limits_hold last_holds penalty sqd
penalty_edges = refl

-- W-202: the length is taken as given, the space off already; a space above 255 is LIMITS here too.
pub penalty_space : map (λ (l : Limits). penalty_alone l 7) (spaced 6 8 10 15 0 ∷ spaced 6 8 10 15 3 ∷ spaced 6 8 10 15 256 ∷ [])
    ≡ Ok (Some 15) ∷ Ok (Some 15) ∷ Err BadLimits ∷ []
unfolding penalty_alone limits_hold last_holds penalty sqd
penalty_space = refl

-- W-205: a line is asked about as any other, and a bad edition or lastmin is LIMITS here too.
pub penalty_last : map (λ (l : Limits). penalty_alone l 7)
    (edition 6 8 10 15 0 2 8 ∷ edition 6 8 10 15 0 2 9 ∷ edition 6 8 10 15 0 1 1 ∷ edition 6 8 10 15 0 0 0 ∷ edition 6 8 10 15 0 3 0 ∷ [])
    ≡ Ok (Some 15) ∷ Err BadLimits ∷ Err BadLimits ∷ Err BadLimits ∷ Err BadLimits ∷ []
unfolding penalty_alone limits_hold last_holds penalty sqd
penalty_last = refl

pub penalty_order : map (penalty_alone (limits 6 8 6 1)) (5 ∷ 6 ∷ 16773121 ∷ [])
    ≡ Err BadLimits ∷ Err BadLimits ∷ Err BadLimits ∷ []
unfolding penalty_alone limits_hold last_holds
penalty_order = refl

-- ---- the worked moves: "P1's moves are 41 43 33 25 35 28 17; G1's are 39 37 30."
pub moves_P1 : map code (queue_moves (limits 1 6 6 1) (3 ∷ 2 ∷ 2 ∷ 5 ∷ [])) ≡ 41 ∷ 43 ∷ 33 ∷ 25 ∷ 35 ∷ 28 ∷ 17 ∷ []
unfolding paragraph_computes
moves_P1 = refl

-- W-202's, with a space
pub moves_4336 : map code (queue_moves (spaced 1 5 6 1 1) (4 ∷ 3 ∷ 3 ∷ 6 ∷ [])) ≡ 41 ∷ 43 ∷ 33 ∷ 25 ∷ 35 ∷ 28 ∷ 17 ∷ []
unfolding paragraph_computes
moves_4336 = refl

pub moves_2 : map code (queue_moves (spaced 1 1 2 1 1) (2 ∷ [])) ≡ 17 ∷ []
unfolding paragraph_computes
moves_2 = refl

pub moves_433 : map code (queue_moves (spaced 2 4 6 1 1) (4 ∷ 3 ∷ 3 ∷ [])) ≡ 33 ∷ 25 ∷ 35 ∷ 28 ∷ 17 ∷ []
unfolding paragraph_computes
moves_433 = refl

pub moves_44355 : map code (queue_moves (spaced 6 8 10 1 2) (4 ∷ 4 ∷ 3 ∷ 5 ∷ 5 ∷ [])) ≡ 49 ∷ 51 ∷ 41 ∷ 43 ∷ 33 ∷ 25 ∷ []
unfolding paragraph_computes
moves_44355 = refl

pub moves_G1 : map code (pointer_moves (pages 2 7) (3 ∷ 4 ∷ 2 ∷ 5 ∷ [])) ≡ 39 ∷ 37 ∷ 30 ∷ []
unfolding index_computes
moves_G1 = refl

-- Here the crossing test decides with its plain sums: less the space, it would pop break 3.
pub moves_2223 : map code (queue_moves (spaced 1 3 9 1 1) (2 ∷ 2 ∷ 2 ∷ 3 ∷ [])) ≡ 41 ∷ 33 ∷ 25 ∷ 43 ∷ 17 ∷ 35 ∷ []
unfolding paragraph_computes
moves_2223 = refl

-- ---- the worked bests of W-202
abbrev bests : Limits → List ℕ → List ℕ → List ℕ
bests l ws starts = map (λ (i : ℕ). best_entry (best l ws i)) starts

pub bests_3225 : bests (spaced 1 6 6 1 0) (3 ∷ 2 ∷ 2 ∷ 5 ∷ []) (1 ∷ 2 ∷ 3 ∷ 4 ∷ 5 ∷ []) ≡ 13 ∷ 4 ∷ 16 ∷ 0 ∷ 0 ∷ []
unfolding paragraph_computes
bests_3225 = refl

pub bests_2 : bests (spaced 1 1 2 1 1) (2 ∷ []) (1 ∷ 2 ∷ []) ≡ 0 ∷ 0 ∷ []
unfolding paragraph_computes
bests_2 = refl

pub bests_4336 : bests (spaced 1 5 6 1 1) (4 ∷ 3 ∷ 3 ∷ 6 ∷ []) (1 ∷ 2 ∷ 3 ∷ 4 ∷ 5 ∷ []) ≡ 4 ∷ 0 ∷ 9 ∷ 0 ∷ 0 ∷ []
unfolding paragraph_computes
bests_4336 = refl

pub bests_433 : bests (spaced 2 4 6 1 1) (4 ∷ 3 ∷ 3 ∷ []) (1 ∷ 2 ∷ 3 ∷ 4 ∷ []) ≡ 2 ∷ 1 ∷ 0 ∷ 0 ∷ []
unfolding paragraph_computes
bests_433 = refl

pub bests_44355 : bests (spaced 6 8 10 1 2) (4 ∷ 4 ∷ 3 ∷ 5 ∷ 5 ∷ []) (1 ∷ 2 ∷ 3 ∷ 4 ∷ 5 ∷ 6 ∷ []) ≡ 1 ∷ 4 ∷ 4 ∷ 0 ∷ 0 ∷ 0 ∷ []
unfolding paragraph_computes
bests_44355 = refl

-- ---- W-205's worked rows: the best of every start and of the end, the chosen next of every start, and the moves of the rules, which run
-- at every start
abbrev Worked : Limits → List ℕ → List ℕ → List ℕ → List ℕ → Type 0
Worked l ws best_strip nexts moves =
    (entries (λ i. best_entry (best l ws i)) 1 (length ws + 1) ≡ best_strip) × (entries (chosen_next l ws) 1 (length ws) ≡ nexts)
    × (map code (queue_moves l ws) ≡ moves)

-- "no setting" as it stands in the strip
abbrev none : ℕ
none = 2 ^ 64 - 1

pub last_1 : Worked (edition 1 2 2 1 0 2 2) (1 ∷ []) (none ∷ 0 ∷ []) (0 ∷ []) (17 ∷ [])
unfolding paragraph_computes
last_1 = (refl, refl, refl)

-- there the front is 2, and is no chooser
abbrev text_1 : Text
text_1 = text_of (edition 1 2 2 1 0 2 2) (1 ∷ [])

abbrev standing_1 : List ℕ
standing_1 = (queue_at text_1 1 1).stands.queue

pub last_front : (front_next standing_1 ≡ 2) × (taken_best text_1 1 standing_1 ≡ no_setting) × (taken_next text_1 1 standing_1 ≡ 0)
unfolding paragraph_computes queue_at taken_best taken_next
last_front = (refl, refl, refl)

pub last_3223 : Worked (edition 1 6 6 1 0 2 4) (3 ∷ 2 ∷ 2 ∷ 3 ∷ [])
    (1 ∷ 16 ∷ 0 ∷ none ∷ 0 ∷ []) (3 ∷ 3 ∷ 5 ∷ 0 ∷ []) (41 ∷ 34 ∷ 43 ∷ 25 ∷ 17 ∷ [])
unfolding paragraph_computes
last_3223 = (refl, refl, refl)

pub last_322 : Worked (edition 2 4 6 1 0 2 3) (3 ∷ 2 ∷ 2 ∷ []) (1 ∷ 0 ∷ none ∷ 0 ∷ []) (2 ∷ 4 ∷ 0 ∷ []) (33 ∷ 26 ∷ 35 ∷ 17 ∷ [])
unfolding paragraph_computes
last_322 = (refl, refl, refl)

pub last_4332 : Worked (edition 2 5 7 1 1 2 4) (4 ∷ 3 ∷ 3 ∷ 2 ∷ [])
    (1 ∷ 4 ∷ 0 ∷ none ∷ 0 ∷ []) (3 ∷ 5 ∷ 5 ∷ 0 ∷ []) (41 ∷ 34 ∷ 25 ∷ 43 ∷ 17 ∷ [])
unfolding paragraph_computes
last_4332 = (refl, refl, refl)

-- ---- other settings: P3's "1 3 costs the same", and "Filling each line as far as it goes: P1 would cost 17."
pub other_P3 : total (paragraph (limits 2 4 6 1) (3 ∷ 2 ∷ 2 ∷ [])) 1 (3 ∷ []) ≡ total (paragraph (limits 2 4 6 1) (3 ∷ 2 ∷ 2 ∷ [])) 1
    (2 ∷ [])
unfolding paragraph_computes
other_P3 = refl

pub greedy_P1 : total (paragraph (limits 1 6 6 1) (3 ∷ 2 ∷ 2 ∷ 5 ∷ [])) 1 (3 ∷ 4 ∷ []) ≡ 17
unfolding paragraph_computes
greedy_P1 = refl
