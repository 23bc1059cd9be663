use Rattle.std.proofs.Common.{◌≡◌, ◌+◌, refl}
use Rattle.paper.specs.declared.Kind.{Kind}
use Rattle.paper.specs.declared.Kind.TheVariants.{Add, Pass, Drop, Pop, Step, Jump, Link}
use Rattle.paper.specs.Moves.{kind_number, code}
use Rattle.strips.proofs.put.Goals as goal
use denote.Enum.Declared.{tag_of}
use Rattle.paper.specs.contracts.Kind.{the_type}

-- the numbers that the enum declares are 01's
numbered : (k : Kind) → kind_number k ≡ tag_of the_type k + 1
unfolding kind_number
numbered Add = refl
numbered Pass = refl
numbered Drop = refl
numbered Pop = refl
numbered Step = refl
numbered Jump = refl
numbered Link = refl

pub returns : goal.returns
unfolding code
returns c = rw numbered
