-- The index's promise shuts out 01's five idle programs. Assumes nothing.
use Rattle.std.specs.Prelude.{ℕ, ◌≡◌, refl, List, [], ◌∷◌, get_or, replicate}
use Rattle.std.proofs.Common.{ap, arith}
use Rattle.paper.specs.Told.{set_answer}
use Rattle.paper.specs.Allowed.{page_limits_of}
use Rattle.paper.specs.Strips.{IndexStrips, index_strips, IndexOutcome, index_outcome}
use Rattle.paper.specs.Computes.{index_computes}
use Rattle.setter.specs.Idle.{ShutOut, shut_out}

-- strips with 7 in every entry, long enough for four items
abbrev pub entry : IndexStrips
entry = index_strips (replicate 5 7) (replicate 6 7) (replicate 6 7) (replicate 6 7) (replicate 6 7) (replicate 8 7) (replicate 4 7)

-- rows G1 and G3, and what is computed for them
abbrev pub G1 : IndexOutcome
G1 = index_outcome (page_limits_of 2 7) (3 ∷ 4 ∷ 2 ∷ 5 ∷ []) entry

abbrev pub G3 : IndexOutcome
G3 = index_outcome (page_limits_of 0 7) (8 ∷ []) entry

abbrev computed_G1 : IndexOutcome
computed_G1 = record {
  answer = set_answer 2 1 3;
  strips = index_strips
      (0 ∷ 3 ∷ 7 ∷ 9 ∷ 14 ∷ []) (2 ∷ 5 ∷ 4 ∷ 2 ∷ 18446744073709551615 ∷ 0 ∷ []) (3 ∷ 3 ∷ 5 ∷ 5 ∷ 0 ∷ 0 ∷ []) (0 ∷ 0 ∷ 0 ∷ 0 ∷ 3 ∷ 0 ∷ [])
      (0 ∷ 2 ∷ 3 ∷ 5 ∷ 5 ∷ 0 ∷ []) (39 ∷ 37 ∷ 30 ∷ 7 ∷ 7 ∷ 7 ∷ 7 ∷ 7 ∷ []) (3 ∷ 7 ∷ 7 ∷ 7 ∷ []);
}

pub computed : (G1 ≡ computed_G1) × (G3.strips.boundaries ≡ 1 ∷ 7 ∷ 7 ∷ 7 ∷ [])
unfolding index_computes
computed = (refl, refl)

pub index_shut_out : ShutOut (λ s. s.sums) (λ s. s.best) (λ s. s.boundaries) entry G1 G3 2 1 3
index_shut_out =
    rw computed.0
    (shut_out refl (λ e. omega arith) (λ e. omega arith)
    (λ e. let z : ◌≡◌ {A = ℕ} 3 1 = ap (λ (l : List ℕ). get_or l 0 0) (rw computed.1 at e) in omega arith))
