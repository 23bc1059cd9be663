-- 01, "Numbers allowed".
use Rattle.std.specs.Prelude.{ℕ, ◌≤◌, Bool, ◌&&◌, ◌||◌, List, T, leb, ltb, eqb, length}
use Rattle.laws.specs.Number.{all}
use Rattle.paper.specs.declared.Limits.{Limits}
use Rattle.paper.specs.declared.PageLimits.{PageLimits}

-- "Limits in the order lmin, lopt, lmax, A, or lmin, lmax." W-202: "Paragraph limits gain the space [..], the space last." W-205: "The
-- limits record carries the edition with its number."
abbrev pub edition_limits : ℕ → ℕ → ℕ → ℕ → ℕ → ℕ → ℕ → Limits
edition_limits lmin lopt lmax a space edition lastmin =
    record { lmin = lmin; lopt = lopt; lmax = lmax; a = a; space = space; edition = edition; lastmin = lastmin }

-- edition 1 has no least last length
abbrev pub spaced_limits : ℕ → ℕ → ℕ → ℕ → ℕ → Limits
spaced_limits lmin lopt lmax a space = edition_limits lmin lopt lmax a space 1 0

-- 01's have no space: "Count 4 means space 0."
abbrev pub limits_of : ℕ → ℕ → ℕ → ℕ → Limits
limits_of lmin lopt lmax a = spaced_limits lmin lopt lmax a 0

abbrev pub page_limits_of : ℕ → ℕ → PageLimits
page_limits_of lmin lmax = record { lmin = lmin; lmax = lmax }

-- "n: 1 to 4,096."
abbrev pub most_words : ℕ
most_words = 4096

-- "Each length: 1 to 4,095." W-202: "a length not above the space is LENGTH", and 0 is above no space. In an index the space is 0.
unfoldable pub length_holds : ℕ → ℕ → Bool
length_holds space w = ltb space w && leb w 4095

-- W-205: "lastmin above lopt, or not 0 under edition 1, or an edition but 1 or 2, is LIMITS"
unfoldable pub last_holds : Limits → Bool
last_holds l = leb l.lastmin l.lopt && (eqb l.edition 1 && eqb l.lastmin 0 || eqb l.edition 2)

-- "Paragraph: 1 ≤ lmin ≤ lopt ≤ lmax ≤ 4,095, lmin < lmax, A from 1 to 15." W-202: "space above 255 is LIMITS"
unfoldable pub limits_hold : Limits → Bool
limits_hold l =
    leb 1 l.lmin && (leb l.lmin l.lopt && (leb l.lopt l.lmax && (leb l.lmax 4095
    && (ltb l.lmin l.lmax && (leb 1 l.a && (leb l.a 15 && (leb l.space 255 && last_holds l)))))))

-- "Index: 0 ≤ lmin < lmax ≤ 65,535."
unfoldable pub page_limits_hold : PageLimits → Bool
page_limits_hold l = ltb l.lmin l.lmax && leb l.lmax 65535

-- "one length from 0 to 16,773,120"
abbrev pub most_alone : ℕ
most_alone = 16773120

-- a list that refusals 1 to 4 pass, where the limits hold and have that space
pub record Passed (hold : Bool) (space : ℕ) (ws : List ℕ) : Type 0 where
  pub limits : T hold
  pub words : 1 ≤ length ws
  pub few : length ws ≤ most_words
  pub lengths : T (all (length_holds space) ws)

-- a paragraph, and an index
abbrev pub ParagraphPassed : Limits → List ℕ → Type 0
ParagraphPassed l ws = Passed (limits_hold l) l.space ws

abbrev pub IndexPassed : PageLimits → List ℕ → Type 0
IndexPassed l ws = Passed (page_limits_hold l) 0 ws
