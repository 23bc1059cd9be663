-- Decimal digits: one turn, and how many there are. Assumes nothing.
use Rattle.std.specs.Prelude.{ℕ, zero, suc, ◌+◌, ◌/◌, ◌%◌, ◌^◌, ◌≤◌, ◌<◌, ◌≡◌, List, [], ◌∷◌, ◌++◌, ltb, length}
use Rattle.std.proofs.Common.{ap, sym, ◌∙◌, ⊎_elim, arith, pow-suc, add-one, lt-ltb, le-ltb, length-append}
use Rattle.std.specs.Fmt.{decimal}
use Rattle.std.proofs.lemmas.Fmt.{decimal_by_steps}
use Rattle.laws.specs.Number.{split, when_true, when_false}
use Rattle.rows.specs.Rows.{digit, digits_in, digits}

-- ---- one turn
in_one : (d x : ℕ) → x < 10 → digits_in (suc d) x ≡ digit x ∷ []
unfolding digits_in
in_one d x h = when_true (ltb x 10) _ _ (lt-ltb x 10 h)

in_more : (d x : ℕ) → 10 ≤ x → digits_in (suc d) x ≡ digits_in d (x / 10) ++ (digit (x % 10) ∷ [])
unfolding digits_in
in_more d x h = when_false (ltb x 10) _ _ (le-ltb x 10 h)

-- more turns than are enough make no difference
enough : (d e x : ℕ) → x < d → x < e → digits_in d x ≡ digits_in e x
enough zero e x h g = absurd (omega arith)
enough (suc d) zero x h g = absurd (omega arith)
enough (suc d) (suc e) x h g =
    ⊎_elim
    (λ f. in_more d x f ∙ ap (λ (l : List ℕ). l ++ (digit (x % 10) ∷ [])) (enough d e (x / 10) (omega arith) (omega arith))
    ∙ sym (in_more e x f))
    (λ f. in_one d x f ∙ sym (in_one e x f))
    (split 10 x)

pub digits_one : (x : ℕ) → x < 10 → digits x ≡ digit x ∷ []
unfolding digits
digits_one x h = rw (add-one x) (in_one x x h)

pub digits_more : (x : ℕ) → 10 ≤ x → digits x ≡ digits (x / 10) ++ (digit (x % 10) ∷ [])
unfolding digits
digits_more x h =
    rw (add-one x)
    (in_more x x h ∙ ap (λ (l : List ℕ). l ++ (digit (x % 10) ∷ [])) (enough x (x / 10 + 1) (x / 10) (omega arith) (omega arith)))

-- ---- they are those that std prints of a number
pub digits_decimal : (x : ℕ) → x < 2 ^ 64 → digits x ≡ decimal x
digits_decimal =
    decimal_by_steps (λ n ds. digits n ≡ ds) digits_one (λ n ds h e. digits_more n h ∙ ap (λ (l : List ℕ). l ++ (digit (n % 10) ∷ [])) e)

-- ---- a number below 10^k has at most k digits
pub digits_width : (k x : ℕ) → x < 10 ^ k → 1 ≤ k → length (digits x) ≤ k
digits_width zero x h g = absurd (omega arith)
digits_width (suc zero) x h g = omega (arith, ap length (digits_one x h))
digits_width (suc (suc k)) x h g =
    ⊎_elim
    (λ f. let less : x / 10 < 10 ^ suc k = omega (arith, pow-suc 10 (suc k)) in
    omega (
      arith,
      ap length (digits_more x f) ∙ length-append (digits (x / 10)) (digit (x % 10) ∷ []),
      digits_width (suc k) (x / 10) less (omega arith),
    ))
    (λ f. omega (arith, ap length (digits_one x f)))
    (split 10 x)
