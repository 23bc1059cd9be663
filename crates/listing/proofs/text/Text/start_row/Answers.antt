use Rattle.listing.proofs.Rows.{line_asks, line_row, boundary_row}
use Rattle.listing.proofs.text.Text.start_row.Goals as goal

pub measured-m-requires : goal.measured-m-requires
measured-m-requires c = line_asks c.requires c.args.self.now.summed c.in-Paragraph.is

pub numbered-requires : goal.numbered-requires
numbered-requires c = rw (line_row c.requires c.in-Paragraph.is c.measured-m.ensures) at c.requires.room

pub numbered-requires-in-Index : goal.numbered-requires-in-Index
numbered-requires-in-Index c = rw (boundary_row c.requires c.in-Index.is c.from.ensures) at c.requires.room

pub returns-in-Paragraph : goal.returns-in-Paragraph
returns-in-Paragraph c = rw (line_row c.requires c.in-Paragraph.is c.measured-m.ensures) c.numbered.ensures

pub returns-in-Index : goal.returns-in-Index
returns-in-Index c = rw (boundary_row c.requires c.in-Index.is c.from.ensures) c.numbered-in-Index.ensures
