-- Another penalty formula, which agrees inside the measure, gives the same bests and the same chosen nexts. Assumes nothing but what each
-- law states.
use Rattle.std.specs.Prelude.{ℕ, ◌+◌, ◌≤◌, ◌<◌, ◌≡◌, Bool, ◌&&◌, T, eqb}
use Rattle.std.proofs.Math.Path.{refl, ap, sym}
use Rattle.std.proofs.Math.Bool.{true, false}
use Rattle.std.proofs.Math.Dec.{leb}
use Rattle.laws.specs.Number.{if}
use Rattle.laws.specs.Search.{smallest}
use Rattle.laws.specs.Setting.{Wider}
use Rattle.laws.specs.Chosen.{best_alike, next_alike}
use Rattle.paper.specs.Lines as Lines
use Rattle.paper.specs.Lines.{Lines, Inside, admissible, charge, settings, free}
use Rattle.paper_theory.specs.Cheapest.{settings_sums}
use Rattle.paper_theory.specs.Bound.{admissible_lmin, admissible_lmax}

-- the lines p by another formula
abbrev pub by_formula : (ℕ → ℕ) → Lines → Lines
by_formula formula p = record {
  end = p.end;
  lmin = p.lmin;
  lopt = p.lopt;
  lmax = p.lmax;
  lastmin = p.lastmin;
  line = p.line;
  penalty = formula;
  break = p.break;
}

module _ (p : Lines) (order : p.lmin ≤ p.lopt) (formula : ℕ → ℕ)
    (same : (x : ℕ) → Inside p.lmin p.lmax x → formula x ≡ p.penalty x) where
  abbrev q : Lines
  q = by_formula formula p

  -- an admissible line costs the same: it is inside the measure, or a short last line, which costs nothing
  charge_same : (i j : ℕ) → T (admissible p i j) → charge q i j ≡ charge p i j
  unfolding charge
  charge_same i j t = go (eqb j p.end && leb (p.line i j) p.lopt) refl
    where
      go : (short : Bool) → (eqb j p.end && leb (p.line i j) p.lopt) ≡ short →
          if short 0 (formula (p.line i j) + p.break j) ≡ if short 0 (p.penalty (p.line i j) + p.break j)
      go true e = refl
      go false e = ap (λ (c : ℕ). c + p.break j) (same (p.line i j) (admissible_lmin p i j t order e, admissible_lmax p i j t))

  there : Wider (settings q) (settings p)
  unfolding settings admissible
  there = record {
    ends = refl;
    fits = λ i j t. t;
    cost = λ i j t. sym (charge_same i j t);
    join = λ c n. refl;
    done = refl;
  }

  back : Wider (settings p) (settings q)
  unfolding settings admissible
  back = record { ends = refl; fits = λ i j t. t; cost = charge_same; join = λ c n. refl; done = refl }

  pub formula_best : (i : ℕ) → i ≤ p.end → Lines.best q i ≡ Lines.best p i
  unfolding Lines.best settings
  formula_best = best_alike (settings q) (settings p) (settings_sums q) (settings_sums p) there back

  pub formula_next : (i : ℕ) → i < p.end → Lines.chosen_next q i ≡ Lines.chosen_next p i
  unfolding Lines.chosen_next settings free
  formula_next i early =
      ap (if (free p i) p.end) (next_alike (settings q) (settings p) (settings_sums q) (settings_sums p) there back smallest i early)
