use Rattle.listing.specs.Listing.{head}
use Rattle.listing.proofs.Rows.{headed_fits}
use Rattle.listing.proofs.heading.head.Goals as goal

pub heading-requires : goal.heading-requires
unfolding head
heading-requires c = headed_fits _ _ _ _ _ _ (rw c.in-Paragraph.is at c.requires)

pub heading-requires-in-Index : goal.heading-requires-in-Index
unfolding head
heading-requires-in-Index c = headed_fits _ _ _ _ _ _ (rw c.in-Index.is at c.requires)

pub returns-in-Paragraph : goal.returns-in-Paragraph
unfolding head
returns-in-Paragraph c = rw c.in-Paragraph.is c.heading.ensures

pub returns-in-Index : goal.returns-in-Index
unfolding head
returns-in-Index c = rw c.in-Index.is c.heading-in-Index.ensures
