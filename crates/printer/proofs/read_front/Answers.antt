use Rattle.std.proofs.Common.{◌≡◌, ℕ, ◌+◌, ◌-◌, ◌≤◌, List, ◌++◌, length, take, arith, sym, ap, ◌∙◌, subst, length-take-le}
use Rattle.std.proofs.Math.Seq.{take-append-add}
use Rattle.std.proofs.lemmas.List.{take-append-le}
use Rattle.std.specs.Io.KnownBytes.{Consumes}
use Rattle.std.proofs.KnownBytes.{Consumes-trans}
use borrow.Rule.Slice.PartMut.{put_mid, post_of}
use Rattle.printer.proofs.read_front.Goals as goal

-- n bytes that were read after the first a
read_on : (a k n : ℕ) (xs ys : List ℕ) → a ≤ length xs → n ≤ length ys → take a xs ++ take n ys ≡ take (a + n) (put_mid a k xs ys)
read_on a k n xs ys within fits =
    sym (
    ap (λ m. take (m + n) (put_mid a k xs ys)) (sym (length-take-le a xs within))
    ∙ take-append-add (take a xs) (ys ++ post_of a k xs) n
    ∙ ap (λ l. take a xs ++ l) (take-append-le n ys (post_of a k xs) fits)
    )

pub loop-count-preserved : goal.loop-count-preserved
loop-count-preserved g c =
    let at = c.loop-count.count in
    let xs = c.loop-count.buffer in
    let i = c.loop-count.invariant in
    let r = c.in-Ok.ensures in
    record {
      within = omega (arith, r.bound.0);
      front = subst (Consumes _ _) (read_on at (length xs - at) c.in-Ok.n xs c.read.new.buf i.within r.bound.0)
          (Consumes-trans _ _ _ _ _ i.front r.bytes.0);
    }
