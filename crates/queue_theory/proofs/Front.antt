-- Demand 3: at every start the front of the queue is the chosen next wherever it is the chooser, and an empty queue means that
-- the start has no setting. Assumes nothing but what each theorem states.
use Prim.Native.Nat.{ℕ, ◌+◌, ◌≤◌, ◌<◌}
use Rattle.std.specs.Prelude.{◌≡◌, ◌↔◌, ◌≢◌, Bool, ltb}
use Rattle.std.proofs.Math.Path.{refl, sym}
use Rattle.std.proofs.Common.{ap, subst, ◌∙◌, ⊎_elim}
use Rattle.std.proofs.Math.Bool.{true, false, and-false}
use mathlib.Core.List.{List, [], ◌∷◌}
use native.Mathlib.Omega.{arith}
use Rattle.std.proofs.Math.Dec.{leb}
use borrow.Author.Tests.{lt-leb, le-leb, leb-true, leb-false, ltb-true, ltb-false}
use Rattle.laws.specs.Number.{if}
use Rattle.laws.specs.Cost.{Cost, none, some, Has, value, has_some, some_not_none, before}
use Rattle.laws.specs.Search.{smallest}
use Rattle.laws.specs.Setting.{Choice, through}
use Rattle.laws.specs.Chosen.{Next, next, next_is, next_unique}
use Rattle.laws.specs.Members.{Every, every_map}
use Rattle.laws.specs.Queue.{Beats}
use Rattle.laws.proofs.Queue.{front_least, empty_none}
use Rattle.laws.specs.Pointer.{Cheaper}
use Rattle.laws.proofs.Pointer.{cheaper_next, no_next}
use Rattle.paper.specs.Lines as Lines
use Rattle.paper.specs.Lines.{Lines, settings, free}
use Rattle.paper.specs.QueueRules.{Text, F, front_best, front_next, taken_best, taken_next, Standing, queue_at}
use Rattle.paper_theory.specs.Cheapest.{free_best, chosen_none}
use Rattle.queue_theory.specs.Scales.{Scaled, Bested}
use Rattle.queue_theory.proofs.Scales.{line_before}
use Rattle.queue_theory.specs.Ready.{Measured}
use Rattle.queue_theory.proofs.Ready.{stood_after}
use Rattle.queue_theory.specs.Curves.{Settable, G}
use Rattle.queue_theory.proofs.Curves.{F_is}
use Rattle.queue_theory.proofs.Sound.{sound_after}
use Rattle.queue_theory.proofs.Long.{choice_measure, measure_choice, charge_is}
use Rattle.queue_theory.proofs.Short.{short_none}

-- ---- two costs joined to a third
joins : (a b : ℕ) (c : Cost) → before ◌+◌ (a + b) c ≡ before ◌+◌ a (before ◌+◌ b c)
joins a b none = refl
joins a b (some v) = ap some (omega arith)

unjoined : (a : ℕ) (c : Cost) → before ◌+◌ a c ≡ none → c ≡ none
unjoined a none e = refl
unjoined a (some v) e = absurd (some_not_none e)

known : (a : ℕ) (c : Cost) → Has c → before ◌+◌ a c ≡ some (value c + a)
known a none h = absurd h
known a (some v) h = ap some (omega arith)

-- ---- what it is to be cheaper by a number, the smaller of equals first
module _ (f : ℕ → Cost) (h j : ℕ) {x : ℕ} (e : f h ≡ some x) where
  cheaper_none : f j ≡ none → Cheaper smallest f h j
  cheaper_none g = record { low = rw g tt; strict = λ le. rw (g, e) (λ k. k) }

  cheaper_some : {y : ℕ} → f j ≡ some y → j ≢ h → x ≤ y → (y ≤ x → h ≤ j) → Cheaper smallest f h j
  cheaper_some g other low ahead = record {
    low = rw (e, g) low;
    strict = λ le. rw (g, e) (λ (k : _). other (omega (arith, ahead k)));
  }

-- ---- the lines from a start whose last line is longer than lopt
module _ {t : Text} (b : Bested t) (i : ℕ) (long : t.lines.lopt < t.lines.line i t.lines.end) where
  -- the line to j with the rest: the best that the rules read has the break's charge in it
  through_is : (j : ℕ) → Choice (settings t.lines) i j → 1 ≤ i →
      through (settings t.lines) (Lines.best t.lines) i j ≡ before ◌+◌ (t.lines.penalty (t.lines.line i j)) (t.best j)
  unfolding settings
  through_is j ch start =
      rw (charge_is b i long j, b.joined j (omega (arith, ch.rises)) ch.within)
      (joins (t.lines.penalty (t.lines.line i j)) (t.lines.break j) (Lines.best t.lines j))

-- ---- every start
module _ {t : Text} (s : Scaled t) (b : Bested t) (n : ℕ) (size : t.lines.end ≡ n + 1) (i : ℕ) (start : 1 ≤ i) (inside : i ≤ n) where
  abbrev pub p : Lines
  p = t.lines

  early : i < p.end
  early = omega (arith, size)

  -- what stands after start i
  abbrev pub stands : Standing
  stands = (queue_at t n i).stands

  abbrev via : ℕ → Cost
  via = through (settings p) (Lines.best p) i

  module _ (long : p.lopt < p.line i p.end) where
    -- every choice with a setting was considered, and is live
    considered : (j : ℕ) → Choice (settings p) i j → stands.candidate + 1 ≤ j
    unfolding settings
    considered j ch =
        let h = stood_after s n size i start inside in
        omega (
          arith,
          line_before s i stands.candidate j start (omega (arith, ch.rises)) h.held.within
              (omega (arith, choice_measure b i long j ch, h.short)) h.held.near,
        )

    choice_measured : (j : ℕ) → Choice (settings p) i j → Has (t.best j) → Measured t i j
    unfolding settings
    choice_measured j ch has =
        let m = choice_measure b i long j ch in
        record { above = ch.rises; within = ch.within; has = has; low = m.0; high = m.1 }

    live : (j : ℕ) → Measured t i j → s.E j ≤ s.T i + p.lmax
    live j v = omega (arith, s.line i j start v.above v.within, v.high)

    settable : (j : ℕ) → Measured t i j → Settable t j
    settable j v = record { from = omega (arith, v.above); within = v.within; has = v.has }

    via_has : (j : ℕ) → Choice (settings p) i j → Has (t.best j) → via j ≡ some (F t i j)
    unfolding F
    via_has j ch has = through_is b i long j ch start ∙ known (p.penalty (p.line i j)) (t.best j) has

    via_none : (j : ℕ) → Choice (settings p) i j → t.best j ≡ none → via j ≡ none
    via_none j ch e = through_is b i long j ch start ∙ ap (before ◌+◌ (p.penalty (p.line i j))) e

    -- no member: no choice has a setting
    empty_best : stands.queue ≡ [] → Lines.best p i ≡ none
    unfolding Lines.best settings
    empty_best e = no_next (settings p) i early (λ j ch. unsettled j ch (t.best j) refl)
      where
        unsettled : (j : ℕ) → Choice (settings p) i j → (c : Cost) → t.best j ≡ c → Lines.best p j ≡ none
        unsettled j ch none f = unjoined (p.break j) (Lines.best p j) (sym (b.joined j (omega (arith, ch.rises)) ch.within) ∙ f)
        unsettled j ch (some v) f =
            let m = choice_measured j ch (has_some f) in
            absurd (empty_none (rw e at (sound_after s n size i start inside).0) j (considered j ch) (settable j m) (live j m))

    -- the front
    module _ (h : ℕ) (q : List ℕ) (e : stands.queue ≡ h ∷ q) where
      members : Every (Measured t i) (h ∷ q)
      members = rw e at (stood_after s n size i start inside).held.live

      front_choice : Choice (settings p) i h
      front_choice = measure_choice b i long h members.0

      front_via : via h ≡ some (F t i h)
      front_via = via_has h front_choice members.0.has

      beats : (j : ℕ) → Measured t i j → stands.candidate + 1 ≤ j → Beats (G s) (s.T i) h j
      beats j v from =
          let u = sound_after s n size i start inside in
          front_least (rw e at u.0)
          (every_map (Measured t i) (λ (k : ℕ). s.E k ≤ s.T i + p.lmax) live (h ∷ q) members) (rw e at u.1)
          j from (settable j v) (live j v)

      -- cost first, then the smaller index
      cheaper : (j : ℕ) → Choice (settings p) i j → j ≢ h → (c : Cost) → t.best j ≡ c → Cheaper smallest via h j
      cheaper j ch other none f = cheaper_none via h j front_via (via_none j ch f)
      cheaper j ch other (some v) f =
          let m = choice_measured j ch (has_some f) in
          let x = F_is s i h start members.0 in
          let y = F_is s i j start m in
          cheaper_some via h j front_via (via_has j ch (has_some f)) other
          (⊎_elim (λ lt. omega arith) (λ le. omega arith) (beats j m (considered j ch)))
          (⊎_elim (λ lt back. omega arith) (λ le back. le.1) (beats j m (considered j ch)))

      front_next_lem : Next (settings p) smallest i h
      unfolding Lines.best settings
      front_next_lem =
          cheaper_next (settings p) i early smallest h front_choice (subst Has (sym front_via) tt)
          (λ j ch other. cheaper j ch other (t.best j) refl)

      front_best_lem : Lines.best p i ≡ some (F t i h)
      unfolding Lines.best settings
      front_best_lem = sym front_next_lem.gives ∙ front_via

    chosen_smallest : Lines.chosen_next p i ≡ next (settings p) smallest i
    unfolding Lines.chosen_next free
    chosen_smallest = rw (lt-leb (p.line i p.end) p.lopt long, and-false (leb p.lastmin (p.line i p.end)))

    -- "otherwise the front is the chooser; with an empty queue there is no setting"
    pub front_chooses : (q : List ℕ) → stands.queue ≡ q → (front_best t i q ≡ Lines.best p i) × (front_next q ≡ Lines.chosen_next p i)
    unfolding Lines.best settings
    front_chooses [] e = (sym (empty_best e), sym (chosen_none p b.lopt_high i early (empty_best e)))
    front_chooses (h ∷ q) e =
        let is = next_unique (front_next_lem h q e) (next_is (settings p) smallest i early (has_some (front_best_lem h q e))) in
        (sym (front_best_lem h q e), is ∙ sym chosen_smallest)

    -- an empty queue means no setting, and no setting an empty queue
    pub empty_exactly : (stands.queue ≡ []) ↔ (Lines.best p i ≡ none)
    empty_exactly = (empty_best, λ e. go stands.queue refl e)
      where
        go : (q : List ℕ) → stands.queue ≡ q → Lines.best p i ≡ none → stands.queue ≡ []
        go [] f e = f
        go (h ∷ q) f e = absurd (some_not_none (sym (front_best_lem h q f) ∙ e))

  -- from the least last length to lopt the start takes n+1 at no cost
  pub free_takes : p.lastmin ≤ p.line i p.end → p.line i p.end ≤ p.lopt →
      (Lines.best p i ≡ some 0) × (Lines.chosen_next p i ≡ p.end)
  unfolding free Lines.chosen_next
  free_takes low high =
      let e : free p i ≡ true = rw (le-leb p.lastmin (p.line i p.end) low, le-leb (p.line i p.end) p.lopt high) in
      (free_best p b.lopt_high i early e, rw e)

  module _ (short : p.line i p.end < p.lastmin) where
    pub short_next : Lines.chosen_next p i ≡ 0
    short_next = chosen_none p b.lopt_high i early (short_none s b n size i start inside short)

  -- Demand 3: what a start takes by the queue rules is its best and its chosen next.
  pub start_takes : (q : List ℕ) → stands.queue ≡ q → (taken_best t i q ≡ Lines.best p i) × (taken_next t i q ≡ Lines.chosen_next p i)
  unfolding taken_best taken_next
  start_takes q e = go (ltb rest p.lastmin) refl (leb rest p.lopt) refl
    where
      rest : ℕ
      rest = p.line i p.end

      go : (c : Bool) → ltb rest p.lastmin ≡ c → (d : Bool) → leb rest p.lopt ≡ d →
          (if c none (if d (some 0) (front_best t i q)) ≡ Lines.best p i) × (if c 0 (if d p.end (front_next q)) ≡ Lines.chosen_next p i)
      go true c d g = let short = ltb-true rest p.lastmin c in (sym (short_none s b n size i start inside short), sym (short_next short))
      go false c true g =
          let taken = free_takes (ltb-false rest p.lastmin c) (leb-true rest p.lopt g) in
          (sym taken.0, sym taken.1)
      go false c false g = front_chooses (leb-false rest p.lopt g) q e
