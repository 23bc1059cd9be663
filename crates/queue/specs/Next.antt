-- What is queued at one start, at the next. Assumes nothing.
use Rattle.std.specs.Prelude.{ℕ, ◌<◌}
use Rattle.laws.specs.Members.{every_map2}
use Rattle.laws.specs.Part.{Part, listed}
use Rattle.queue.specs.Asks.{Queued}

pub queued_map : {P P' : ℕ → Type 0} {q : Part} {c : ℕ} → ((k : ℕ) → c < k → P k → P' k) → Queued P q c → Queued P' q c
queued_map {P} {P'} {q} {c} f h = record {
  order = h.order;
  standing = h.standing;
  each = every_map2 (λ (k : ℕ). c < k) P P' f (listed q) h.below h.each;
  falls = h.falls;
  below = h.below;
  place = h.place;
}
