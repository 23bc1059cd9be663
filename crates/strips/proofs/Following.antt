-- One turn of the loop that follows the nexts. Assumes nothing.
use Rattle.std.proofs.Common.{◌≡◌, refl, ap, sym, ◌∙◌}
use Rattle.std.proofs.Common.{ℕ, ◌+◌, ◌≤◌, ◌<◌, List, [], ◌∷◌, ◌++◌, append_assoc, length, length-append, set, arith}
use Rattle.laws.specs.Strip.{over, over_nil, over_set}
use Rattle.std.proofs.lemmas.List.{append-nil}
use Rattle.strips.specs.Asks.{FollowAsk, Followed}
use Rattle.strips.specs.Chain.{next_in, chain, LeadsOn, leads_rises, leads_on, chain_more, chain_past}

-- the starts found so far are written, and the rest is still to come from `at` on
pub record Following (N : List ℕ) (o n first : ℕ) (s₀ s : List ℕ) (at found : ℕ) : Type 0 where
  pub done : List ℕ
  pub is : s ≡ over done s₀
  pub count : found ≡ length done
  pub so_far : chain N o n first ≡ done ++ chain N o n at
  pub leads : LeadsOn N o n at
  pub rose : first + found ≤ at

module _ {N : List ℕ} {o n first : ℕ} {s₀ : List ℕ} where
  pub following_first : FollowAsk N o n first s₀ → Following N o n first s₀ s₀ first 0
  following_first a = record { done = []; is = sym (over_nil s₀); count = refl; so_far = refl; leads = a.leads; rose = omega arith }

  module _ {s : List ℕ} {at found : ℕ} (f : Following N o n first s₀ s at found) where
    pub following_more : found < length s₀ → at ≤ n → Following N o n first s₀ (set s found at) (next_in N o at) (found + 1)
    following_more room h = record {
      done = f.done ++ (at ∷ []);
      is = ap (λ (l : List ℕ). set l found at) f.is ∙ over_set f.done s₀ at found f.count (omega (arith, f.count));
      count = simp length-append (omega (arith, f.count));
      so_far = f.so_far
          ∙ ap (λ (l : List ℕ). f.done ++ l) (chain_more N o n at f.leads h)
          ∙ sym (append_assoc f.done (at ∷ []) (chain N o n (next_in N o at)));
      leads = leads_on N o n at f.leads h;
      rose = omega (arith, f.rose, leads_rises N o n at f.leads h);
    }

    pub following_done : n < at → Followed (chain N o n first) s₀ s found
    following_done h =
        let past = ap (λ (l : List ℕ). f.done ++ l) (chain_past N o n at h) in
        let e : chain N o n first ≡ f.done = f.so_far ∙ past ∙ append-nil f.done in
        record { is = f.is ∙ ap (λ (l : List ℕ). over l s₀) (sym e); counted = f.count ∙ ap length (sym e) }

    -- where the strip is full no start is left
    pub following_full : FollowAsk N o n first s₀ → found ≡ length s₀ → Followed (chain N o n first) s₀ s found
    following_full a full = following_done (omega (arith, a.room, f.rose))
