use Rattle.std.proofs.Common.{◌≡◌}
use Rattle.std.proofs.Math.Seq.{slice}
use Rattle.queue.specs.Asks.{read, stood}
use Rattle.queue.proofs.Dropping.{Leading}
use Rattle.queue.proofs.Queue.drop_worse.Given as goal

abbrev pub invariant-dropping : goal.invariant-dropping
invariant-dropping l = record {
  rule : Leading (read l.r) (stood l.queue l.initial.self) l.initial.self.moves l.initial.moves l.moves
      l.self.front l.self.moves l.self.cost;
  stays : (l.self.end ≡ l.initial.self.end) × (l.self.candidate ≡ l.initial.self.candidate);
  left : l.pair-iterator.rest.now ≡ slice l.self.front l.initial.self.end l.queue;
  two : l.pair-iterator.size ≡ 2;
}
