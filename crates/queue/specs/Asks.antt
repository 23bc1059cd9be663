-- What the functions of the queue rules ask of their callers, and what each leaves. The queue stands in a part of its strip, front to rear;
-- t moves were taken before, and u after. Assumes nothing.
use Rattle.std.specs.Prelude.{ℕ, ◌+◌, ◌-◌, ◌*◌, ◌^◌, ◌≤◌, ◌<◌, ◌≡◌, ◌⊎◌, List, reverse, length, get_or}
use Rattle.laws.specs.Members.{Every, Falls}
use Rattle.laws.specs.Part.{Part, part, listed, Each}
use Rattle.paper.specs.declared.Limits.{Limits}
use Rattle.paper_theory.specs.Ranges.{Ranges}
use Rattle.paper.specs.Moves.{Taken}
use Rattle.paper.specs.QueueRules.{Text, Standing, F, bridged, drop_long, pop_worse, pop_bridged, drop_worse, front_best}
use Rattle.paper.specs.QueueRules.{add, consider, candidates, at_start}
use Rattle.paper.specs.Strips.{best_entry}
use Rattle.lines.specs.declared.Break.{Break}
use Rattle.lines.specs.declared.Measure.{Measure}
use Rattle.lines.specs.Held.{begins, break_in, text_in, cost_at, bridged_at}
use Rattle.lines.specs.Asks.{costliest, Rising, Placed, Indexed, Through, Three}
use Rattle.strips.specs.Running.{Ran}
use Rattle.queue.specs.declared.Queue.{Queue}
use Rattle.queue.specs.declared.reading.Reading.{Reading}

-- ---- what the rules of a start read
pub record Start : Type 0 where
  pub limits : Limits
  pub measure : Measure
  pub ends : List ℕ
  pub best : List ℕ

abbrev pub start : Limits → Measure → List ℕ → List ℕ → Start
start l p E B = record { limits = l; measure = p; ends = E; best = B }

abbrev pub text_at : Start → Text
text_at s = text_in s.limits s.ends s.best (begins s.limits s.measure)

-- what the code reads, and of it break k and F of it
abbrev pub read : Reading → Start
read r = start r.limits r.measure r.ends.now r.best.now

abbrev pub break_at : Start → ℕ → Break
break_at s k = break_in s.ends s.best k

abbrev pub through_at : Start → ℕ → ℕ
through_at s k = cost_at s.limits s.measure.goal (break_at s k)

abbrev pub Costed : Start → ℕ → Type 0
Costed s k = Through s.limits s.measure.goal s.ends s.best k

-- ---- one rule: members leave at an end of the queue, a move each
-- of each member P holds, and the moves have room
pub record ShedAsks (P : ℕ → Type 0) (q : Part) (t room : ℕ) : Type 0 where
  pub order : q.from ≤ q.to
  pub standing : q.to ≤ length q.strip
  pub enough : t + (q.to - q.from) ≤ room
  pub each : Each P q
  pub index : Each (λ (k : ℕ). k ≤ 4097) q

-- The part q of q₀ is left. The moves are those of the rule, of every text and start that the numbers at hand are of.
pub record Shed {I : Type 0} (rule : I → Taken (List ℕ)) (stands : List ℕ) (q₀ q : Part) (t : ℕ) (m₀ m : List ℕ) (u : ℕ) : Type 0 where
  pub low : q₀.from ≤ q.from
  pub order : q.from ≤ q.to
  pub high : q.to ≤ q₀.to
  pub count : u + (q.to - q.from) ≡ t + (q₀.to - q₀.from)
  pub ran : (x : I) → Ran (rule x) t m₀ m u stands

-- members left at the front, up to place r, or at the rear, down to place r
abbrev pub Dropped : {I : Type 0} → (I → Taken (List ℕ)) → Part → ℕ → List ℕ → List ℕ → ℕ → ℕ → Type 0
Dropped rule q t m₀ m r u = Shed rule (listed (part q.strip r q.to)) q (part q.strip r q.to) t m₀ m u

abbrev pub Popped : {I : Type 0} → (I → Taken (List ℕ)) → Part → ℕ → List ℕ → List ℕ → ℕ → ℕ → Type 0
Popped rule q t m₀ m r u = Shed rule (reverse (listed (part q.strip q.from r))) q (part q.strip q.from r) t m₀ m u

-- ---- rule 1
-- at start i of the text t break k is longer than lmax where its end is past far
pub record Past (E : List ℕ) (far : ℕ) (t : Text) (i k : ℕ) : Type 0 where
  pub long : far < get_or E (k - 1) 0 → t.lines.lmax < t.lines.line i k
  pub short : get_or E (k - 1) 0 ≤ far → t.lines.line i k ≤ t.lines.lmax

pub record LongAt (E : List ℕ) (far : ℕ) (q : Part) : Type 0 where
  pub text : Text
  pub start : ℕ
  pub each : Each (Past E far text start) q

pub record LongDropped (E : List ℕ) (far : ℕ) (q : Part) (t : ℕ) (m₀ m : List ℕ) (r u : ℕ) : Type 0 where
  pub dropped : Dropped (λ (x : LongAt E far q). drop_long x.text x.start (listed q)) q t m₀ m r u
  pub short : r < q.to → get_or E (get_or q.strip r 0 - 1) 0 ≤ far

-- ---- rule 3
-- the numbers are F of the breaks
pub record CostsAt (s : Start) (q : Part) : Type 0 where
  pub text : Text
  pub start : ℕ
  pub each : Each (λ (k : ℕ). through_at s k ≡ F text start k) q

pub record WorseDropped (s : Start) (q : Part) (t : ℕ) (m₀ m : List ℕ) (r cost u : ℕ) : Type 0 where
  pub dropped : Dropped (λ (x : CostsAt s q). drop_worse x.text x.start (listed q)) q t m₀ m r u
  pub is : (x : CostsAt s q) → cost ≡ best_entry (front_best x.text x.start (listed (part q.strip r q.to)))
  pub number : r < q.to → cost < 2 ^ 64 - 1

-- ---- rule 2, the pops
-- and `cost` is F of a candidate
pub record NewAt (s : Start) (cost : ℕ) (q : Part) : Type 0 where
  pub costs : CostsAt s q
  pub candidate : ℕ
  pub is : cost ≡ F costs.text costs.start candidate

abbrev pub WorsePopped : Start → ℕ → Part → ℕ → List ℕ → List ℕ → ℕ → ℕ → Type 0
WorsePopped s cost q =
    Popped (λ (x : NewAt s cost q). pop_worse x.costs.text x.costs.start x.candidate (reverse (listed q))) q

pub record PopBridgedAsks (s : Start) (new : Break) (q : Part) (t room : ℕ) : Type 0 where
  pub shed : ShedAsks (Indexed s.ends) q t room
  pub threes : (a : ℕ) → q.from ≤ a → a + 1 < q.to →
      Three s.limits new (break_at s (get_or q.strip (a + 1) 0)) (break_at s (get_or q.strip a 0))

-- the test on numbers is that of the text
pub record BridgesAt (s : Start) (new : Break) (q : Part) : Type 0 where
  pub text : Text
  pub candidate : ℕ
  pub each : (a : ℕ) → q.from ≤ a → a + 1 < q.to →
      bridged_at s.limits new (break_at s (get_or q.strip (a + 1) 0)) (break_at s (get_or q.strip a 0)) ≡
      bridged text candidate (get_or q.strip (a + 1) 0) (get_or q.strip a 0)

abbrev pub BridgedPopped : Start → Break → Part → ℕ → List ℕ → List ℕ → ℕ → ℕ → Type 0
BridgedPopped s new q = Popped (λ (x : BridgesAt s new q). pop_bridged x.text x.candidate (reverse (listed q))) q

-- ---- what the rules of a start meet
-- ends and bests of n words
pub record Readable (s : Start) (n : ℕ) : Type 0 where
  pub ranges : Ranges s.limits
  pub placed : Placed s.limits s.measure
  pub rising : Rising s.ends
  pub few : n ≤ 4096
  pub ends : length s.ends ≡ n + 1
  pub bests : length s.best ≡ n + 1

-- the best of each index after start i is a number, or none
abbrev pub Known : List ℕ → ℕ → Type 0
Known B i = (k : ℕ) → i < k → k ≤ length B → (get_or B (k - 1) 0 ≡ 2 ^ 64 - 1) ⊎ (get_or B (k - 1) 0 < costliest)

-- a line to k is at least lmin, and k has a setting
pub record Member (s : Start) (k : ℕ) : Type 0 where
  pub within : k ≤ length s.ends
  pub reach : s.measure.near ≤ get_or s.ends (k - 1) 0
  pub number : get_or s.best (k - 1) 0 < costliest

-- and the line is inside the measure
pub record Inside (s : Start) (k : ℕ) : Type 0 where
  pub member : Member s k
  pub high : get_or s.ends (k - 1) 0 ≤ s.measure.far

-- ---- the queue between the rules: of who stands P holds, the front has the largest index, the candidate c is below them all, and the
-- strip has a place for each candidate that is left
pub record Queued (P : ℕ → Type 0) (q : Part) (c : ℕ) : Type 0 where
  pub order : q.from ≤ q.to
  pub standing : q.to ≤ length q.strip
  pub each : Every P (listed q)
  pub falls : Falls (listed q)
  pub below : Every (λ (k : ℕ). c < k) (listed q)
  pub place : q.to + c ≤ length q.strip + 1

-- ---- rule 2
-- a candidate whose line is at least lmin, and room for it
pub record ConsiderAsks (s : Start) (j : ℕ) (new : Break) (q : Part) (t room : ℕ) : Type 0 where
  pub readable : Readable s (length q.strip)
  pub queued : Queued (Inside s) q j
  pub later : 1 < j
  pub read : new ≡ break_in s.ends s.best j
  pub within : j ≤ length s.ends
  pub reach : s.measure.near ≤ new.end
  pub known : (new.best ≡ 2 ^ 64 - 1) ⊎ (new.best < costliest)
  pub enough : t + (q.to - q.from) + 1 ≤ room

-- and it is inside the measure, and has a setting
pub record AddAsks (s : Start) (j : ℕ) (new : Break) (q : Part) (t room : ℕ) : Type 0 where
  pub consider : ConsiderAsks s j new q t room
  pub high : new.end ≤ s.measure.far
  pub number : new.best < costliest

-- the candidate j was passed or added, at any start before it
pub record Tried (rule : ℕ → Taken (List ℕ)) (j : ℕ) (q₀ q : Part) (t : ℕ) (m₀ m : List ℕ) (u : ℕ) : Type 0 where
  pub low : q.from ≤ q.to
  pub high : q.to ≤ q₀.to + 1
  pub same : length q.strip ≡ length q₀.strip
  pub ran : (i : ℕ) → i < j → Ran (rule i) t m₀ m u (listed q)

-- it leaves the queue up to place e of the strip Q
abbrev pub Adds : Start → ℕ → Part → ℕ → List ℕ → ℕ → ℕ → List ℕ → List ℕ → Type 0
Adds s j q t m₀ e u Q m = Tried (λ i. add (text_at s) i j (listed q)) j q (part Q q.from e) t m₀ m u

abbrev pub Considers : Start → ℕ → Part → ℕ → List ℕ → ℕ → ℕ → List ℕ → List ℕ → Type 0
Considers s j q t m₀ e u Q m = Tried (λ i. consider (text_at s) i j (listed q)) j q (part Q q.from e) t m₀ m u

-- ---- rule 2 and all rules, at start i
pub record RulesAsk (P : ℕ → Type 0) (s : Start) (i : ℕ) (q : Part) (c t room : ℕ) : Type 0 where
  pub readable : Readable s (length q.strip)
  pub known : Known s.best i
  pub queued : Queued P q c
  pub first : 1 ≤ i
  pub near : i ≤ c
  pub enough : t + (q.to - q.from) + 2 * (c - 1) ≤ room

pub record RulesLeave (P : ℕ → Type 0) (i : ℕ) (rule : Taken Standing) (Q : List ℕ) (t : ℕ) (m₀ m : List ℕ) (q : Part)
    (c u : ℕ) : Type 0 where
  pub same : length q.strip ≡ length Q
  pub queued : Queued P q c
  pub near : i ≤ c
  pub ran : Ran rule t m₀ m u (record { queue = listed q; candidate = c })

abbrev pub CandidatesAsk : Start → ℕ → Part → ℕ → ℕ → ℕ → Type 0
CandidatesAsk s i q c t room = RulesAsk (Inside s) s i q c t room

abbrev pub CandidatesLeave : Start → ℕ → Part → ℕ → ℕ → List ℕ → List ℕ → Part → ℕ → ℕ → Type 0
CandidatesLeave s i q c = RulesLeave (Inside s) i (candidates (text_at s) i c (listed q)) q.strip

-- where the queue stands in the strip Q
abbrev pub stood : List ℕ → Queue → Part
stood Q q = part Q q.front q.end

abbrev pub StartAsks : Start → ℕ → List ℕ → Queue → ℕ → Type 0
StartAsks s i Q q room = RulesAsk (Member s) s i (stood Q q) q.candidate 0 room

pub record StartLeaves (s : Start) (i : ℕ) (q : Part) (c : ℕ) (m₀ : List ℕ) (r : Queue) (Q m : List ℕ) : Type 0 where
  pub left : RulesLeave (Member s) i (at_start (text_at s) i (record { queue = listed q; candidate = c })) q.strip 0 m₀ m
      (stood Q r) r.candidate r.moves
  pub cost : r.cost ≡ best_entry (front_best (text_at s) i (listed (stood Q r)))
  pub number : r.front < r.end → r.cost < 2 ^ 64 - 1
