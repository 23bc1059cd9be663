-- What all starts leave. Assumes nothing but what each law states.
use Rattle.std.proofs.Common.{◌≡◌, ap, ◌∙◌, ℕ, ◌-◌, List, map, length, arith}
use Rattle.laws.specs.Strip.{over}
use Rattle.paper.specs.declared.Limits.{Limits}
use Rattle.paper.specs.declared.Move.{Move}
use Rattle.paper.specs.Moves.{code}
use Rattle.paper.specs.Paragraph.{best, lines}
use Rattle.paper.specs.QueueRules.{queue_moves}
use Rattle.paper.specs.Strips.{best_entry}
use Rattle.paper_theory.specs.Cheapest.{best_last}
use Rattle.strips.specs.Filling.{entered_all, entered_whole}
use Rattle.strips.specs.Words.{words_of}
use Rattle.queue.specs.declared.Queue.{Queue}
use Rattle.breaks.specs.Asks.{so_far, Starts}
use Rattle.breaks.proofs.Started.{Started}

pub started_done : {l : Limits} {S m₀ Q B N m : List ℕ} {q : Queue} {i : ℕ} → Started l S m₀ Q B N m q i → i ≡ 0 →
    Starts l S m₀ q.moves B N m
unfolding queue_moves best lines best_entry
started_done {l} {S} {m₀} {i = i} s z =
    record {
      best = entered_whole (ap best_entry (best_last (lines l (words_of S)))) (rw z at s.done.bests) (length (words_of S)) (omega arith);
      next = entered_all (rw z at s.nexts) (length (words_of S)) (omega arith);
      moves = s.moves ∙ ap (λ (ms : List Move). over (map code ms) m₀) all;
      counted = s.count ∙ ap length all;
    }
  where
    all : (so_far l (words_of S) i).moves ≡ queue_moves l (words_of S)
    all = let e : length (words_of S) - i ≡ length (words_of S) = omega arith in rw e
