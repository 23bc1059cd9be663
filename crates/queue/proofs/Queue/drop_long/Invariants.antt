use Rattle.std.proofs.Common.{◌≡◌, ◌+◌}
use Rattle.queue.specs.Asks.{stood}
use Rattle.queue.proofs.Dropping.{LongDropping}
use Rattle.queue.proofs.Queue.drop_long.Given as goal

abbrev pub invariant-dropping : goal.invariant-dropping
invariant-dropping l = record {
  rule : LongDropping l.r.ends.now l.r.measure.far (stood l.queue l.initial.self) l.initial.self.moves l.initial.moves l.moves
      l.self.front l.self.moves;
  stays : (l.self.end ≡ l.initial.self.end) × (l.self.candidate ≡ l.initial.self.candidate);
  cost : l.self.cost ≡ l.initial.self.cost;
  at : l.self.front ≡ l.initial.self.front + l.j-index;
}
