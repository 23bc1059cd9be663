use Rattle.std.proofs.Common.{ℕ, List, ◌≡◌}
use Rattle.rows.specs.Puts.{Along}
use Rattle.rows.proofs.Rows.text.Given as goal

-- a word is put as it stands
abbrev same : List ℕ → List ℕ
same w = w

abbrev pub invariant-loop-byte : goal.invariant-loop-byte
invariant-loop-byte l = record {
  same_buffer : l.self.out.ghost_name ≡ l.initial.self.out.ghost_name;
  puts : Along same l.word l.byte-index l.initial.self.at l.initial.self.out.now l.self.at l.self.out.now;
}
