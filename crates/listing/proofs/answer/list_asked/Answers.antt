use Rattle.listing.proofs.answer.list_asked.Goals as goal

pub returns-in-Paragraph : goal.returns-in-Paragraph
returns-in-Paragraph c = rw c.in-Paragraph.is c.list_paragraph.ensures

pub returns-in-Index : goal.returns-in-Index
returns-in-Index c = rw c.in-Index.is c.list_index.ensures
