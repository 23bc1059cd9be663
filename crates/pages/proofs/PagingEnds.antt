-- The loop over the starts, before the first and after the last. Assumes nothing.
use Rattle.std.proofs.Common.{◌≡◌, ap, sym, ◌∙◌, ℕ, ◌+◌, ◌-◌, ◌≤◌, List, length, set, replicate, arith}
use Rattle.laws.specs.Strip.{onward_zero}
use Rattle.paper.specs.declared.PageLimits.{PageLimits}
use Rattle.paper.specs.PointerRules.{Pointing, after_starts, pointer_moves}
use Rattle.paper.specs.Strips.{entries}
use Rattle.pointer_theory.proofs.Entries.{left_is, right_is}
use Rattle.strips.specs.Filling.{entered_first, entered_all, entered_whole}
use Rattle.strips.specs.Words.{words_of, holds_length}
use Rattle.pointer.specs.Held.{best_at, best_end}
use Rattle.pointer.specs.Asks.{StartStrips, start_strips}
use Rattle.strips.specs.Running.{running_first, running_done}
use Rattle.pages.specs.Asks.{PointerStrips, pointer_strips, PageStartsAsk, PageStarts}
use Rattle.pages.proofs.Paging.{Paging}

-- ---- before the first
cleared : {n : ℕ} (L : List ℕ) {M : List ℕ} → length L ≡ n → M ≡ replicate (length L) 0 → M ≡ replicate n 0
cleared L size is = is ∙ ap (λ (k : ℕ). replicate k 0) size

pub paging_first : {l : PageLimits} {S : List ℕ} {s : PointerStrips} → PageStartsAsk l S s → {L R : List ℕ} →
    L ≡ replicate (length s.left) 0 → R ≡ replicate (length s.right) 0 →
    Paging l S s.moves s.moves 0 (start_strips (set s.best (length S) 0) (set s.next (length S) 0) L R) (length S) (length S)
unfolding after_starts
paging_first {l} {S} {s} a {L} {R} left right =
    let n : ℕ = length (words_of S) in
    let e : length S ≡ n + 1 = holds_length a.held in
    let z : n + 1 - length S ≡ 0 = omega arith in
    let lefts : L ≡ replicate (n + 2) 0 = cleared s.left (omega (arith, a.sized.left)) left in
    let rights : R ≡ replicate (n + 2) 0 = cleared s.right (omega (arith, a.sized.right)) right in
    record {
      held = a.held;
      low = omega arith;
      room = omega (arith, a.moves);
      ran = rw (z, lefts, rights, e) (running_done _ 0 s.moves s.moves 0 _ (running_first _ 0 s.moves (omega arith)));
      bests = record {
        passed = a.held.passed;
        entered = rw e (entered_first s.best (n + 1) (omega (arith, a.sized.best)) (omega arith));
      };
      nexts = rw e (entered_first s.next (n + 1) (omega (arith, a.sized.next)) (omega arith));
    }

-- ---- after the last
pub paging_done : {l : PageLimits} {S m₀ m : List ℕ} {taken : ℕ} {t : StartStrips} {i r : ℕ} → Paging l S m₀ m taken t i r → i ≤ 0 →
    PageStarts l (words_of S) m₀ taken (pointer_strips t.best t.next t.left t.right m)
unfolding pointer_moves
paging_done {l} {S} {m₀} {i = i} g end =
    let ws = words_of S in
    let z : i ≡ 0 = omega arith in
    let y : length ws + 1 - i ≡ length ws + 1 = omega arith in
    let ran = rw y at g.ran in
    let bests = rw z at g.bests.entered in
    let k : length ws + 1 + 1 ≡ length ws + 2 = omega arith in
    record {
      best = entered_whole (best_end l ws) bests (length ws + 1) (omega arith) ∙ ap (entries (best_at l ws) 0) k;
      next = entered_all (rw z at g.nexts) (length ws + 1) (omega arith);
      left = ap (λ (s : Pointing). s.left) (sym ran.stands) ∙ left_is l ws;
      right = ap (λ (s : Pointing). s.right) (sym ran.stands) ∙ right_is l ws;
      moves = ran.moves ∙ onward_zero _ m₀;
      count = omega (arith, ran.count);
    }
