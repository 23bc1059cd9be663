-- Rows that are put twice: first on no buffer, to count them, and then on the whole one where they have room. And the row of a refusal.
-- Assumes nothing but what each law states.
use Prim.Native.Nat.{ℕ, ◌^◌, ◌≤◌, ◌<◌}
use mathlib.Core.Path.{◌≡◌, refl, ap}
use mathlib.Core.List.{List, [], ◌∷◌, ◌++◌}
use native.Mathlib.Omega.{arith}
use borrow.Author.Tests.{le-leb, lt-leb}
use lib.ListN.{length}
use Rattle.laws.specs.Outcome.{Promise, Is}
use Rattle.rows.specs.Puts.{Fits, Puts, puts_counted, puts_over}
use Rattle.std.specs.Prelude.{Ok}
use Rattle.listing.specs.Listing.{refused}
use Rattle.listing.specs.Promise.{short, bytes_outcome}
use Rattle.listing.proofs.Size.{refused_size}

module _ {bytes : List ℕ} {size : ℕ} {t : List ℕ} (s : List ℕ) (counted : Puts bytes 0 [] size t) where
  back : t ++ s ≡ s
  back = ap (λ (l : List ℕ). l ++ s) (puts_counted counted)

  pub too_short : length (t ++ s) < size → Promise Is (bytes_outcome bytes s) (short size) (t ++ s)
  unfolding bytes_outcome
  too_short h =
      let e : size ≡ length bytes = omega (arith, counted.place) in
      rw (back, lt-leb (length bytes) (length s) (omega (arith, ap length back)), e) (record { tells = refl; strips = refl })

  pub all_written : size ≤ length (t ++ s) → {next : ℕ} {u : List ℕ} →
      Puts bytes 0 (t ++ s) next u → Promise Is (bytes_outcome bytes s) (Ok size) u
  unfolding bytes_outcome
  all_written h p =
      let e : size ≡ length bytes = omega (arith, counted.place) in
      let room : length bytes ≤ length s = omega (arith, ap length back) in
      rw (le-leb (length bytes) (length s) room, e) (record { tells = refl; strips = puts_over (rw back at p) room })

pub refused_fits : (number place : ℕ) → number < 2 ^ 64 → place < 2 ^ 64 → Fits 0 (refused number place ∷ [])
refused_fits number place h g = omega (arith, refused_size 20 20 number place (omega arith) (omega arith) (omega arith) (omega arith))
