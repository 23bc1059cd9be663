-- The paragraph's promise shuts out 01's five idle programs. Assumes nothing.
use Rattle.std.specs.Prelude.{ℕ, ◌≡◌, refl, List, [], ◌∷◌, get_or, replicate}
use Rattle.std.proofs.Common.{ap, arith}
use Rattle.paper.specs.Told.{set_answer}
use Rattle.paper.specs.Allowed.{limits_of}
use Rattle.paper.specs.Strips.{ParagraphStrips, paragraph_strips, ParagraphOutcome, paragraph_outcome}
use Rattle.paper.specs.Computes.{paragraph_computes}
use Rattle.setter.specs.Idle.{ShutOut, shut_out}

-- strips with 7 in every entry, long enough for five words
abbrev pub entry : ParagraphStrips
entry = paragraph_strips (replicate 6 7) (replicate 6 7) (replicate 6 7) (replicate 5 7) (replicate 10 7) (replicate 5 7)

-- rows P1 and P2, and what is computed for them
abbrev pub P1 : ParagraphOutcome
P1 = paragraph_outcome (limits_of 1 6 6 1) (3 ∷ 2 ∷ 2 ∷ 5 ∷ []) entry

abbrev pub P2 : ParagraphOutcome
P2 = paragraph_outcome (limits_of 6 8 10 1) (4 ∷ 4 ∷ 3 ∷ 5 ∷ 2 ∷ []) entry

abbrev computed_P1 : ParagraphOutcome
computed_P1 = record {
  answer = set_answer 13 3 7;
  strips = paragraph_strips
      (0 ∷ 3 ∷ 5 ∷ 7 ∷ 12 ∷ 7 ∷ []) (13 ∷ 4 ∷ 16 ∷ 0 ∷ 0 ∷ 7 ∷ []) (2 ∷ 4 ∷ 4 ∷ 5 ∷ 0 ∷ 7 ∷ []) (0 ∷ 0 ∷ 0 ∷ 0 ∷ 7 ∷ [])
      (41 ∷ 43 ∷ 33 ∷ 25 ∷ 35 ∷ 28 ∷ 17 ∷ 7 ∷ 7 ∷ 7 ∷ []) (1 ∷ 2 ∷ 4 ∷ 7 ∷ 7 ∷ []);
}

pub computed : (P1 ≡ computed_P1) × (P2.strips.breaks ≡ 1 ∷ 3 ∷ 5 ∷ 7 ∷ 7 ∷ [])
unfolding paragraph_computes
computed = (refl, refl)

pub paragraph_shut_out : ShutOut (λ s. s.sums) (λ s. s.best) (λ s. s.breaks) entry P1 P2 13 3 7
paragraph_shut_out =
    rw computed.0
    (shut_out refl (λ e. omega arith) (λ e. omega arith)
    (λ e. let z : ◌≡◌ {A = ℕ} 2 3 = ap (λ (l : List ℕ). get_or l 1 0) (rw computed.1 at e) in omega arith))
