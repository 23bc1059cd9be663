-- The queue of candidates as a list, and what is kept of it. F c x is what candidate c costs at position x; c is live at x
-- where E c ≤ x + m; Ok c says that c has a cost. Positions fall from start to start, candidates are considered from the
-- largest down. Over any F, E, m and Ok.
use Rattle.std.specs.Prelude.{ℕ, ◌+◌, ◌≤◌, ◌<◌, ◌⊎◌, List, [], ◌∷◌}
use Rattle.laws.specs.Members.{Every, Any, Falls, Rises, Threes}

abbrev pub Live : (ℕ → ℕ) → ℕ → ℕ → ℕ → Type 0
Live E m c x = E c ≤ x + m

-- (F j, j) ≤ (F c, c), the cost first
abbrev pub Beats : (ℕ → ℕ → ℕ) → ℕ → ℕ → ℕ → Type 0
Beats F x j c = (F j x < F c x) ⊎ ((F j x ≤ F c x) × (j ≤ c))

-- Going back, the nearer break only gains; and it ends first.
pub record Laws (F : ℕ → ℕ → ℕ) (E : ℕ → ℕ) (Ok : ℕ → Type 0) : Type 0 where
  pub gain : (j k x y : ℕ) → Ok j → Ok k → j < k → y ≤ x → F j x ≤ F k x → F j y ≤ F k y
  pub rise : (j k : ℕ) → Ok j → Ok k → j < k → E j ≤ E k

-- k stands rightly between j and l: while l is live, j no worse than k implies k better than l. At every position from x down.
abbrev pub Ordered : (ℕ → ℕ → ℕ) → (ℕ → ℕ) → ℕ → ℕ → ℕ → ℕ → ℕ → Type 0
Ordered F E m x j k l = (y : ℕ) → y ≤ x → Live E m l y → F j y ≤ F k y → F k y < F l y

-- k is of no use between j and l: where l is not live, or no better than k, j is no worse than k.
abbrev pub Useless : (ℕ → ℕ → ℕ) → (ℕ → ℕ) → ℕ → ℕ → ℕ → ℕ → ℕ → Type 0
Useless F E m x j k l = (y : ℕ) → y ≤ x → (Live E m l y → F k y ≤ F l y) → F j y ≤ F k y

-- the front is better than the one behind it
abbrev pub Leads : (ℕ → ℕ → ℕ) → ℕ → List ℕ → Type 0
Leads F x [] = Unit {0}
Leads F x (h ∷ []) = Unit {0}
Leads F x (h ∷ s ∷ q) = F h x < F s x

-- k is live at y, and beats c there
abbrev pub Wins : (ℕ → ℕ → ℕ) → (ℕ → ℕ) → ℕ → ℕ → ℕ → ℕ → Type 0
Wins F E m y c k = Live E m k y × Beats F y k c

-- at x, with every candidate from lo on considered; listed from front to rear
pub record Kept (F : ℕ → ℕ → ℕ) (E : ℕ → ℕ) (m : ℕ) (Ok : ℕ → Type 0) (x lo : ℕ) (q : List ℕ) : Type 0 where
  pub falls : Falls q
  pub ok : Every Ok q
  pub order : Threes (λ (a b c : ℕ). Ordered F E m x c b a) q
  pub above : Every (λ (k : ℕ). lo ≤ k) q
  pub cover : (y c : ℕ) → y ≤ x → lo ≤ c → Ok c → Live E m c y → Any (Wins F E m y c) q

-- the same while the candidate n waits to be added behind the rear; listed from rear to front
pub record Adding (F : ℕ → ℕ → ℕ) (E : ℕ → ℕ) (m : ℕ) (Ok : ℕ → Type 0) (x n : ℕ) (q : List ℕ) : Type 0 where
  pub rises : Rises q
  pub ok : Every Ok q
  pub order : Threes (Ordered F E m x) q
  pub above : Every (λ (k : ℕ). n < k) q
  pub new : Ok n
  pub cover : (y c : ℕ) → y ≤ x → n ≤ c → Ok c → Live E m c y → Any (Wins F E m y c) (n ∷ q)
