use Rattle.listing.proofs.Setters.{index_answered}
use Rattle.listing.proofs.answer.list_index.Goals as goal

pub list_answer-requires : goal.list_answer-requires
list_answer-requires c = index_answered _ _ c.set_index-answer.ensures
