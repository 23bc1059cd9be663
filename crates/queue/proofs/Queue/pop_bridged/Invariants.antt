use Rattle.std.proofs.Common.{◌≡◌}
use Rattle.queue.specs.Asks.{read, stood}
use Rattle.queue.proofs.Popping.{BridgedPopping}
use Rattle.queue.proofs.Queue.pop_bridged.Given as goal

abbrev pub invariant-popping : goal.invariant-popping
invariant-popping l = record {
  rule : BridgedPopping (read l.r) l.new (stood l.queue l.initial.self) l.initial.self.moves l.initial.moves l.moves
      l.rear l.self.moves;
  stays : (l.self.front ≡ l.initial.self.front) × (l.self.candidate ≡ l.initial.self.candidate);
  cost : l.self.cost ≡ l.initial.self.cost;
  at : l.self.end ≡ l.rear;
}
