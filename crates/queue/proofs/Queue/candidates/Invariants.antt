use Rattle.std.proofs.Common.{◌≡◌}
use Rattle.queue.specs.Asks.{read, stood}
use Rattle.queue.proofs.Trying.{Trying}
use Rattle.queue.proofs.Queue.candidates.Given as goal

abbrev pub invariant-falling : goal.invariant-falling
invariant-falling l = record {
  rule : Trying (read l.r) l.i (stood l.initial.queue l.initial.self) l.initial.self.candidate
      l.initial.self.moves l.initial.moves l.queue l.moves l.self.end l.self.candidate l.self.moves;
  stays : l.self.front ≡ l.initial.self.front;
  cost : l.self.cost ≡ l.initial.self.cost;
}

abbrev pub decreases-falling : goal.decreases-falling
decreases-falling l = l.self.candidate
