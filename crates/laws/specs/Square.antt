-- The square of a difference, over the natural numbers, and of a line against its optimum. Assumes nothing.
use Rattle.std.specs.Prelude.{ℕ, ◌+◌, ◌-◌, ◌*◌, ◌≤◌, ◌≡◌}
use Rattle.std.proofs.Common.{◌∙◌, ⊎_elim, arith}
use Rattle.laws.specs.Number.{split, up}

-- (a - b)², whichever is the greater
unfoldable pub sqd : ℕ → ℕ → ℕ
sqd a b = (a - b) * (a - b) + (b - a) * (b - a)

pub sqd_comm : (a b : ℕ) → sqd a b ≡ sqd b a
unfolding sqd
sqd_comm a b = omega arith

pub sqd_up : (a d : ℕ) → sqd a (a + d) ≡ d * d
unfolding sqd
sqd_up a d =
    let u : a - (a + d) ≡ 0 = omega arith in
    let v : (a + d) - a ≡ d = omega arith in
    rw (u, v) (omega arith)

sqd_eq_up : (a d : ℕ) → sqd a (a + d) + 2 * (a * (a + d)) ≡ a * a + (a + d) * (a + d)
sqd_eq_up a d = rw sqd_up (omega arith)

-- The one law of sqd that the rest goes by: with it a fact of squares is linear in the monomials.
pub sqd_eq : (a b : ℕ) → sqd a b + 2 * (a * b) ≡ a * a + b * b
sqd_eq a b =
    ⊎_elim
    (λ h. up (λ (n : ℕ). sqd a n + 2 * (a * n) ≡ a * a + n * n) a b h (sqd_eq_up a))
    (λ h. let w : sqd b a + 2 * (b * a) ≡ b * b + a * a = up (λ (n : ℕ). sqd b n + 2 * (b * n) ≡ b * b + n * n) b a (omega arith)
    (sqd_eq_up b) in
    omega (arith, w, sqd_comm a b))
    (split a b)

pub sqd_shift : (a b c : ℕ) → sqd (a + c) (b + c) ≡ sqd a b
sqd_shift a b c = omega (arith, sqd_eq (a + c) (b + c), sqd_eq a b)

-- The line from x to e against the optimum o is the curve of e at x + o.
pub sqd_line : (e x o : ℕ) → x ≤ e → sqd (e - x) o ≡ sqd e (x + o)
sqd_line e x o h =
    up (λ (n : ℕ). sqd (n - x) o ≡ sqd n (x + o)) x e h
    (λ d. let v : (x + d) - x ≡ d = omega arith in
    rw v (omega (arith, sqd_eq d o, sqd_eq (x + d) (x + o))))

-- What is left of the measure m after the line from e to l, against the optimum: both scales moved by m.
pub sqd_left : (e l m o : ℕ) → e ≤ l → l - e ≤ m → sqd (m - (l - e)) o ≡ sqd (e + m) (l + o)
sqd_left e l m o h k =
    up (λ (n : ℕ). n - e ≤ m → sqd (m - (n - e)) o ≡ sqd (e + m) (n + o)) e l h
    (λ d q. let v : (e + d) - e ≡ d = omega arith in
    rw v (sqd_line m d o (omega arith) ∙ omega (arith, sqd_eq m (d + o), sqd_eq (e + m) (e + d + o)))) k

-- Two risings pair best in the same order.
pub rearrange : (e f y z : ℕ) → e ≤ f → z ≤ y → e * y + f * z ≤ e * z + f * y
rearrange e f y z h k =
    up (λ (f : ℕ). e * y + f * z ≤ e * z + f * y) e f h
    (λ p. up (λ (y : ℕ). e * y + (e + p) * z ≤ e * z + (e + p) * y) z y k (λ q. omega arith))
