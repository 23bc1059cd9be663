-- W-202: with space 0 every definition is 01's, under edition 1; and a space may as well be put on the measure. Assumes nothing but what
-- each theorem states.
use Rattle.std.specs.Prelude.{ℕ, ◌+◌, ◌-◌, ◌*◌, ◌≤◌, ◌<◌, ◌≡◌, Bool, ◌&&◌, ltb, length}
use Rattle.std.proofs.Math.Path.{refl, ap, sym, subst, fun_ext}
use Rattle.std.proofs.Common.{◌∙◌, ⊎_elim}
use Rattle.std.proofs.Math.Bool.{true, false, and-true}
use mathlib.Core.List.{List, ◌∷◌}
use Rattle.std.proofs.Math.Nat.{sub-zero}
use native.Mathlib.Omega.{arith}
use borrow.Author.Tests.{le-leb, lt-leb, eqb-true, eqb-false}
use Rattle.std.proofs.Math.Dec.{T, leb, eqb}
use Rattle.laws.specs.Number.{if, split}
use Rattle.laws.specs.Square.{sqd, sqd_line}
use Rattle.laws.specs.Search.{smallest}
use Rattle.laws.specs.Setting.{Wider}
use Rattle.laws.specs.Chosen.{best_alike, next_alike, follow_alike}
use Rattle.paper.specs.declared.Limits.{Limits}
use Rattle.paper.specs.Lines as Lines
use Rattle.paper.specs.Lines.{Lines, admissible, charge, settings, free}
use Rattle.paper.specs.Allowed.{edition_limits, limits_of, last_holds, limits_hold, length_holds}
use Rattle.paper.specs.Paragraph as Paragraph
use Rattle.paper.specs.Paragraph.{line, line_length, end, penalty, least_last, lines}
use Rattle.paper.specs.QueueRules.{text_of}
use Rattle.paper.specs.Told.{first_failing}
use Rattle.paper_theory.specs.Ranges.{Ranges}
use Rattle.paper_theory.specs.Cheapest.{settings_sums}
use Rattle.paper_theory.specs.Bound.{admissible_lmin}

-- ---- 01's own limits, lengths, lines and text. Every other definition only hands the space and the edition on to these.
module _ (lmin lopt lmax a : ℕ) where
  abbrev l : Limits
  l = limits_of lmin lopt lmax a

  -- "Paragraph: 1 ≤ lmin ≤ lopt ≤ lmax ≤ 4,095, lmin < lmax, A from 1 to 15."
  pub limits_01 : limits_hold l
      ≡ (leb 1 lmin && (leb lmin lopt && (leb lopt lmax && (leb lmax 4095 && (ltb lmin lmax && (leb 1 a && leb a 15))))))
  unfolding limits_hold last_holds
  limits_01 = rw (le-leb 0 lopt (omega arith), and-true (leb a 15))

  -- "Each length: 1 to 4,095."
  pub lengths_01 : length_holds l.space ≡ (λ w. leb 1 w && leb w 4095)
  unfolding length_holds
  lengths_01 = refl

  module _ (ws : List ℕ) where
    -- "some length is 0 or above 4,095", "the first such word"
    pub word_01 : first_failing (length_holds l.space) 1 ws ≡ first_failing (λ w. leb 1 w && leb w 4095) 1 ws
    word_01 = ap (λ (ok : ℕ → Bool). first_failing ok 1 ws) lengths_01

    -- "Line(i, j), for i ≤ j, is the sum of lengths of words i to j-1."
    pub line_01 : line_length l ws ≡ line ws
    unfolding line_length
    line_01 = fun_ext (λ i. fun_ext (λ j. sub-zero (line ws i j)))

    abbrev pub lines_by : (ℕ → ℕ → ℕ) → Lines
    lines_by measured = record {
      end = end ws;
      lmin = lmin;
      lopt = lopt;
      lmax = lmax;
      lastmin = 0;
      line = measured;
      penalty = penalty l;
      break = λ j. 0;
    }

    -- so admissible, charge, best, the chosen next and the breaks, which read nothing else
    pub lines_01 : lines l ws ≡ lines_by (line ws)
    unfolding lines least_last
    lines_01 = ap lines_by line_01

    -- and F, the rules and the moves
    pub text_01 : text_of l ws ≡ record { lines = lines_by (line ws); a = a; apart = line ws; best = Lines.best (lines_by (line ws)) }
    unfolding text_of Paragraph.best
    text_01 = ap (λ (p : Lines). record { lines = p; a = a; apart = line ws; best = Lines.best p }) lines_01

-- ---- A paragraph with a space is the paragraph without it whose measure is raised by it, and whose least last length is too, where there
-- is one.
abbrev pub raised_last : ℕ → ℕ → ℕ
raised_last space lastmin = if (eqb lastmin 0) 0 (lastmin + space)

abbrev pub raised : Limits → Limits
raised l =
    edition_limits (l.lmin + l.space) (l.lopt + l.space) (l.lmax + l.space) l.a 0 l.edition (raised_last l.space l.lastmin)

module _ (l : Limits) (r : Ranges l) (ws : List ℕ) where
  abbrev p : Lines
  p = lines l ws

  abbrev q : Lines
  q = lines (raised l) ws

  same_high : (x high : ℕ) → leb (x - l.space) high ≡ leb x (high + l.space)
  same_high x high =
      ⊎_elim
      (λ h. le-leb (x - l.space) high (omega arith) ∙ sym (le-leb x (high + l.space) h))
      (λ h. lt-leb (x - l.space) high (omega arith) ∙ sym (lt-leb x (high + l.space) h))
      (split x (high + l.space))

  same_low : (x low : ℕ) → 1 ≤ low → leb low (x - l.space) ≡ leb (low + l.space) x
  same_low x low some =
      ⊎_elim
      (λ h. le-leb low (x - l.space) (omega arith) ∙ sym (le-leb (low + l.space) x h))
      (λ h. lt-leb low (x - l.space) (omega arith) ∙ sym (lt-leb (low + l.space) x h))
      (split (low + l.space) x)

  same_none : (x : ℕ) → leb 0 (x - l.space) ≡ leb 0 x
  same_none x = le-leb 0 (x - l.space) (omega arith) ∙ sym (le-leb 0 x (omega arith))

  same_last : (x : ℕ) → leb (least_last l) (x - l.space) ≡ leb (least_last (raised l)) x
  unfolding least_last
  same_last x = go (eqb l.edition 2) (eqb l.lastmin 0) refl
    where
      go : (two zero : Bool) → eqb l.lastmin 0 ≡ zero →
          leb (if two l.lastmin 0) (x - l.space) ≡ leb (if two (if zero 0 (l.lastmin + l.space)) 0) x
      go true true e = rw (eqb-true l.lastmin 0 e) (same_none x)
      go true false e = same_low x l.lastmin (omega (arith, eqb-false l.lastmin 0 e))
      go false zero e = same_none x

  fits_same : (i j : ℕ) → admissible p i j ≡ admissible q i j
  unfolding admissible lines line_length
  fits_same i j =
      let x = line ws i j in
      rw (sub-zero x, same_high x l.lmax, same_low x l.lmin r.lmin_low, same_last x)

  -- a line that is charged is at least lmin, and so its sum at least the space
  charge_raised : (i j : ℕ) → T (admissible p i j) → charge q i j ≡ charge p i j
  unfolding charge lines line_length penalty
  charge_raised i j t =
      let x = line ws i j in
      rw (sub-zero x, ← same_high x l.lopt) (go (eqb j (end ws) && leb (x - l.space) l.lopt) refl)
    where
      go : (short : Bool) → (eqb j (end ws) && leb (line ws i j - l.space) l.lopt) ≡ short →
          if short 0 (l.a * sqd (line ws i j) (l.lopt + l.space) + 0) ≡ if short 0 (l.a * sqd (line ws i j - l.space) l.lopt + 0)
      go true e = refl
      go false e =
          let long : l.lmin ≤ line ws i j - l.space = admissible_lmin p i j t r.lopt_low e in
          let c : l.space + l.lopt ≡ l.lopt + l.space = omega arith in
          rw (sqd_line (line ws i j) l.space l.lopt (omega (arith, long, r.lmin_low)), c)

  there : Wider (settings p) (settings q)
  unfolding settings lines
  there = record {
    ends = refl;
    fits = λ i j t. subst T (fits_same i j) t;
    cost = charge_raised;
    join = λ c n. refl;
    done = refl;
  }

  back : Wider (settings q) (settings p)
  unfolding settings lines
  back = record {
    ends = refl;
    fits = λ i j t. subst T (sym (fits_same i j)) t;
    cost = λ i j t. sym (charge_raised i j (subst T (sym (fits_same i j)) t));
    join = λ c n. refl;
    done = refl;
  }

  pub raised_best : (i : ℕ) → i ≤ end ws → Paragraph.best l ws i ≡ Paragraph.best (raised l) ws i
  unfolding Paragraph.best Lines.best settings lines
  raised_best = best_alike (settings p) (settings q) (settings_sums p) (settings_sums q) there back

  pub raised_next : (i : ℕ) → i < end ws → Paragraph.chosen_next l ws i ≡ Paragraph.chosen_next (raised l) ws i
  unfolding Paragraph.chosen_next Lines.chosen_next settings lines free line_length
  raised_next i early =
      let x = line ws i (end ws) in
      rw (sub-zero x, same_high x l.lopt, same_last x)
      (ap (if (leb (least_last (raised l)) x && leb x (l.lopt + l.space)) (end ws))
      (next_alike (settings p) (settings q) (settings_sums p) (settings_sums q) there back smallest i early))

  pub raised_breaks : 1 ≤ length ws → Paragraph.breaks l ws ≡ Paragraph.breaks (raised l) ws
  unfolding Paragraph.breaks Lines.breaks Paragraph.chosen_next lines
  raised_breaks words = ap (λ (js : List ℕ). 1 ∷ js) (follow_alike (end ws) _ _ raised_next (end ws) 1 (omega arith))
