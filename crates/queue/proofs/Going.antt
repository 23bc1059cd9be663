-- A loop over the members that stand from place f up to place e of the strip Q. Assumes nothing.
use Prim.Native.Nat.{ℕ, ◌+◌, ◌-◌, ◌≤◌, ◌<◌}
use mathlib.Core.Path.{◌≡◌, ap, sym, ◌∙◌}
use mathlib.Core.List.{List}
use native.Mathlib.Omega.{arith}
use lib.ListN.{length, get_or, take, drop}
use lib.Seq.{slice, length-slice, get_or-take, get_or-drop, drop-drop}
use Rattle.std.proofs.lemmas.List.{drop-take}

-- what `&s[f..e]` lends
pub between : (s : List ℕ) (f e : ℕ) → f ≤ e → take (e - f) (drop f s) ≡ slice f e s
between s f e h = let z : f + (e - f) ≡ e = omega arith in sym (rw z at (drop-take f (e - f) s))

-- a member of what stands
member : (Q : List ℕ) (f e i a : ℕ) → a ≡ f + i → a < e → get_or (slice f e Q) i 0 ≡ get_or Q a 0
member Q f e i a is h =
    get_or-drop f (take e Q) i 0 ∙ ap (λ (x : ℕ). get_or (take e Q) x 0) (sym is) ∙ get_or-take e Q a 0 h

pub lent_member : (Q : List ℕ) (f e k a : ℕ) → k < e - f → a ≡ f + k → get_or (take (e - f) (drop f Q)) k 0 ≡ get_or Q a 0
lent_member Q f e k a h is = rw (between Q f e (omega arith)) (member Q f e k a is (omega arith))

-- of a loop over `windows(2)`, whose iterator has `rest` left: the front and the second
pub record Front (Q : List ℕ) (f e front second : ℕ) (r : List ℕ) : Type 0 where
  pub more : f + 1 < e
  pub first : front ≡ get_or Q f 0
  pub next : second ≡ get_or Q (f + 1) 0
  pub left : r ≡ slice (f + 1) e Q

pub front_next : {Q rest pair r : List ℕ} {f e size : ℕ} → e ≤ length Q → rest ≡ slice f e Q → size ≡ 2 → size ≤ length rest →
    pair ≡ take size rest → r ≡ drop 1 rest → Front Q f e (get_or pair 0 0) (get_or pair 1 0) r
front_next {Q} {rest} {pair} {r} {f} {e} {size} h left two some is after =
    let more : f + 1 < e = omega (arith, length-slice f e Q h, ap length left) in
    let at : pair ≡ take 2 (slice f e Q) = is ∙ rw (two, left) in
    record {
      more = more;
      first = rw at (get_or-take 2 (slice f e Q) 0 0 (omega arith) ∙ member Q f e 0 f (omega arith) (omega arith));
      next = rw at (get_or-take 2 (slice f e Q) 1 0 (omega arith) ∙ member Q f e 1 (f + 1) (omega arith) more);
      left = after ∙ ap (drop 1) left ∙ drop-drop 1 f (take e Q);
    }
