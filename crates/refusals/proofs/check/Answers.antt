use Rattle.std.proofs.Common.{sym, ◌∙◌}
use Rattle.std.proofs.lemmas.Result.{err_from_is_err_and}
use Rattle.refusals.proofs.Turns.{words_refuse, limits_refuse, lengths_refuse, room_decides}
use Rattle.refusals.proofs.check.Goals as goal

pub returns-in_err-check_words : goal.returns-in_err-check_words
returns-in_err-check_words g c =
    let p = err_from_is_err_and c.from_residual.result c.from_residual.ensures.1 in
    rw (p.1, p.2) (words_refuse _ _ _ _ _ c.check_words.ensures c.in_err-check_words.was)

pub returns-then-not-hold : goal.returns-then-not-hold
returns-then-not-hold g c =
    limits_refuse _ _ _ _ _ c.check_words.ensures c.in_ok-check_words.was (sym c.hold.ensures ∙ c.if-not-hold.true)

pub returns-in_err-check_lengths : goal.returns-in_err-check_lengths
returns-in_err-check_lengths g c =
    let p = err_from_is_err_and c.from_residual-in_err-check_lengths.result c.from_residual-in_err-check_lengths.ensures.1 in
    rw (p.1, p.2)
    (lengths_refuse _ _ _ _ _ c.check_words.ensures c.in_ok-check_words.was (sym c.hold.ensures ∙ c.if-not-hold.false)
    (rw (← c.space.ensures) c.check_lengths.ensures) c.in_err-check_lengths.was)

pub returns : goal.returns
returns g c =
    room_decides _ _ _ _ _ c.check_words.ensures c.in_ok-check_words.was (sym c.hold.ensures ∙ c.if-not-hold.false)
    (rw (← c.space.ensures) c.check_lengths.ensures) c.in_ok-check_lengths.was c.check_room.ensures
