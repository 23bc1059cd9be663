-- What the setters promise: the answer and every entry of every strip, from the inputs alone; and that any two outcomes that
-- satisfy a promise agree. Assumes nothing.
use Rattle.std.specs.Prelude.{◌≡◌}
use Rattle.laws.specs.Outcome.{Promise, agree, Answers, answers_single}
use Rattle.paper.specs.Told.{Answer}
use Rattle.paper.specs.Told.{Alone, told, told_penalty}
use Rattle.paper.specs.Strips.{ParagraphStrips, ParagraphOutcome, IndexStrips, IndexOutcome}

-- The paragraph's outcome is `paragraph_outcome` of the limits, the lengths and the strips at entry.
abbrev pub ParagraphPromise : ParagraphOutcome → Answer → ParagraphStrips → Type 0
ParagraphPromise = Promise (Answers told)

pub paragraph_agree : {o : ParagraphOutcome} {a b : Answer} {s t : ParagraphStrips} →
    ParagraphPromise o a s → ParagraphPromise o b t → (a ≡ b) × (s ≡ t)
paragraph_agree = agree answers_single

-- The index's outcome is `index_outcome` of the limits, the lengths and the strips at entry.
abbrev pub IndexPromise : IndexOutcome → Answer → IndexStrips → Type 0
IndexPromise = Promise (Answers told)

pub index_agree : {o : IndexOutcome} {a b : Answer} {s t : IndexStrips} → IndexPromise o a s → IndexPromise o b t → (a ≡ b) × (s ≡ t)
index_agree = agree answers_single

-- The penalty's answer is `penalty_alone` of the limits and the length.
abbrev pub PenaltyPromise : Alone → Alone → Type 0
PenaltyPromise = Answers told_penalty

pub penalty_agree : {o a b : Alone} → PenaltyPromise o a → PenaltyPromise o b → a ≡ b
penalty_agree = answers_single _ _ _
