-- The promises are kept: a refusal found is the outcome, and what passes the checks is set. Assumes nothing but what each law states.
use Prim.Native.Nat.{ℕ}
use mathlib.Core.Path.{◌≡◌, refl, sym, ◌∙◌}
use mathlib.Core.Bool.{Bool}
use mathlib.Core.List.{List}
use borrow.Author.Rules.{rules}
use lib.ListN.{length}
use Rattle.laws.specs.Outcome.{Outcome, Promise, Answers, answers}
use Rattle.paper.specs.declared.Limits.{Limits}
use Rattle.paper.specs.declared.PageLimits.{PageLimits}
use Rattle.paper.specs.declared.Refusal.{Refusal}
use Rattle.paper.specs.Told.{Checked}
use Rattle.std.specs.Prelude.{Ok, Err}
use Rattle.paper.specs.Told.{Answer, refused_answer}
use Rattle.paper.specs.Allowed.{limits_hold, page_limits_hold}
use Rattle.paper.specs.Told.{told, checked}
use Rattle.paper.specs.Strips.{refused_or, ParagraphStrips, paragraph_has, paragraph_needs, IndexStrips, index_has, index_needs}
use Rattle.refusals.specs.Accepted.{accepted}
use Rattle.breaks.specs.Asks.{SetAsks}
use Rattle.pages.specs.Asks.{PageAsk}

-- ---- what the checks found, for limits that hold or not
module _ (held : Bool) (space : ℕ) (ws has rules : List ℕ) {found : Checked} (f : found ≡ checked held space ws has rules) where
  pub found_is : {c : Checked} → found ≡ c → checked held space ws has rules ≡ c
  found_is e = sym f ∙ e

  -- a refusal is the outcome, and else what is set
  module _ {S : Type 0} (s : S) (o : Outcome Answer S) where
    pub refusal_kept : {r : Refusal} → found ≡ Err r →
        Promise (Answers told) (refused_or s (checked held space ws has rules) o) (refused_answer r) s
    refusal_kept e = rw (found_is e) (record { tells = answers refl; strips = refl })

    pub setting_kept : {a : Answer} {t : S} → found ≡ Ok tt → a ≡ o.answer → t ≡ o.strips →
        Promise (Answers told) (refused_or s (checked held space ws has rules) o) a t
    setting_kept e k g = rw (found_is e) (record { tells = answers k; strips = g })

-- ---- what passes is what the engines ask
pub paragraph_passes : (l : Limits) (ws : List ℕ) (s : ParagraphStrips) →
    checked (limits_hold l) l.space ws (paragraph_has s) (paragraph_needs (length ws)) ≡ Ok tt → SetAsks l ws s
paragraph_passes l ws s e =
    let passed = accepted (limits_hold l) l.space ws (paragraph_has s) (paragraph_needs (length ws)) e in
    search rules

pub index_passes : (l : PageLimits) (ws : List ℕ) (s : IndexStrips) →
    checked (page_limits_hold l) 0 ws (index_has s) (index_needs (length ws)) ≡ Ok tt → PageAsk l ws s
index_passes l ws s e =
    let passed = accepted (page_limits_hold l) 0 ws (index_has s) (index_needs (length ws)) e in
    search rules
