-- What a row of the compositor's table is computed with: `unfolding paragraph_computes`, or `index_computes`, opens all of it.
use Rattle.laws.specs.Square.{sqd}
use Rattle.laws.specs.Strip.{over}
use Rattle.laws.specs.Table as Table
use Rattle.laws.specs.Chosen.{next}
use Rattle.paper.specs.Lines as Lines
use Rattle.paper.specs.Lines.{admissible, charge, settings, free}
use Rattle.paper.specs.Paragraph as Paragraph
use Rattle.paper.specs.Paragraph.{sum, line, line_length, penalty, least_last, lines, paragraph}
use Rattle.paper.specs.Index as Index
use Rattle.paper.specs.Index.{gap, page, item, index}
use Rattle.paper.specs.Allowed.{length_holds, last_holds, limits_hold, page_limits_hold}
use Rattle.paper.specs.Told.{first_failing, first_short, checked}
use Rattle.paper.specs.Moves.{code, kind_number}
use Rattle.paper.specs.QueueRules as QueueRules
use Rattle.paper.specs.PointerRules as PointerRules
use Rattle.paper.specs.Strips.{entries, sums, best_entry, left_entry, right_entry}
use Rattle.paper.specs.Strips.{paragraph_written, paragraph_set, paragraph_checked, paragraph_outcome}
use Rattle.paper.specs.Strips.{index_written, index_set, index_checked, index_outcome}

-- the checks, and what stands in the strips of either kind
unfoldable pub strips_compute : Unit {0}
unfolding over sum Table.best next length_holds first_failing first_short checked code kind_number entries sums best_entry
strips_compute = tt

unfoldable pub paragraph_computes : Unit {0}
unfolding strips_compute line line_length penalty least_last lines paragraph admissible charge settings free sqd
    Lines.best Lines.chosen_next Lines.breaks
    Paragraph.best Paragraph.chosen_next Paragraph.breaks last_holds limits_hold
    QueueRules.text_of QueueRules.F QueueRules.edge QueueRules.chord QueueRules.drop_long QueueRules.pop_worse QueueRules.pop_bridged
    QueueRules.add QueueRules.consider QueueRules.candidates QueueRules.drop_worse QueueRules.settled QueueRules.at_start
    QueueRules.after_starts QueueRules.queue_moves paragraph_written paragraph_set paragraph_checked paragraph_outcome
paragraph_computes = tt

unfoldable pub index_computes : Unit {0}
unfolding strips_compute gap page item index Index.best Index.chosen_next Index.boundaries page_limits_hold left_entry right_entry
    PointerRules.pages_of PointerRules.steps PointerRules.jumps PointerRules.links PointerRules.pointed PointerRules.linked
    PointerRules.at_start PointerRules.after_starts PointerRules.pointer_moves index_written index_set index_checked index_outcome
index_computes = tt
