-- What the rules read at a start, from a strip of ends, a strip of bests and the measure of the start's lines. Assumes nothing.
use Rattle.std.specs.Prelude.{ℕ, ◌+◌, ◌-◌, ◌*◌, Bool, ◌&&◌, List, leb, ltb, length, get_or}
use Rattle.laws.specs.Number.{if}
use Rattle.laws.specs.Bridge.{curve}
use Rattle.paper.specs.declared.Limits.{Limits}
use Rattle.paper.specs.Paragraph.{penalty, least_last}
use Rattle.paper.specs.QueueRules.{Text}
use Rattle.strips.specs.Costs.{cost_of}
use Rattle.lines.specs.declared.Measure.{Measure}
use Rattle.lines.specs.declared.Break.{Break}

-- from start i to break j, on the sums
abbrev pub span : List ℕ → ℕ → ℕ → ℕ
span S i j = get_or S (j - 1) 0 - get_or S (i - 1) 0

-- break j, as the strips have it
abbrev pub break_in : List ℕ → List ℕ → ℕ → Break
break_in E B j = record { end = get_or E (j - 1) 0; best = get_or B (j - 1) 0 }

-- where the lines begin whose measure p is
abbrev pub begins : Limits → Measure → ℕ
begins l p = p.goal - l.lopt

-- The text of a start whose lines begin at x. A line ends where its break does, if the break is after the start.
unfoldable pub text_in : Limits → List ℕ → List ℕ → ℕ → Text
text_in l E B x = record {
  lines = record {
    end = length E;
    lmin = l.lmin;
    lopt = l.lopt;
    lmax = l.lmax;
    lastmin = least_last l;
    line = λ i j. if (ltb i j) (get_or E (j - 1) 0 - x) 0;
    penalty = penalty l;
    break = λ j. 0;
  };
  a = l.a;
  apart = span E;
  best = λ j. cost_of (get_or B (j - 1) 0);
}

-- ---- the tests, on numbers
-- a line that is best at goal, with its break's best
abbrev pub cost_at : Limits → ℕ → Break → ℕ
cost_at l goal b = curve l.a b.best b.end goal

-- a side of the first test of "bridged": at the last start from which a line to n is inside the measure, both scales moved by lmax
abbrev pub side_at : Limits → Break → Break → ℕ
side_at l n b = curve l.a b.best (b.end + l.lmax) (n.end + l.lopt)

abbrev pub edge_at : Limits → Break → Break → Break → Bool
edge_at l j k n = leb (side_at l n j) (side_at l n k)

-- the second test, by how far the breaks lie apart
abbrev pub chord_of : ℕ → ℕ → ℕ → ℕ → ℕ → ℕ → ℕ → Bool
chord_of a jk jn kn bj bk bn = leb (jk * bn + kn * bj + a * (jk * jn * kn)) (jn * bk)

abbrev pub chord_at : Limits → Break → Break → Break → Bool
chord_at l j k n = chord_of l.a (k.end - j.end) (n.end - j.end) (n.end - k.end) j.best k.best n.best

-- both: the rear k is bridged between the candidate j and its neighbour n
abbrev pub bridged_at : Limits → Break → Break → Break → Bool
bridged_at l j k n = edge_at l j k n && chord_at l j k n
