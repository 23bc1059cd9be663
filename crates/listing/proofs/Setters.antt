-- What each setter promises, as an answer to what is asked. Assumes nothing but what each law states.
use Prim.Native.Nat.{ℕ}
use mathlib.Core.Path.{◌≡◌, refl}
use mathlib.Core.List.{List}
use native.Mathlib.Omega.{arith}
use lib.ListN.{length, replicate, length-replicate}
use Rattle.paper.specs.declared.Limits.{Limits}
use Rattle.paper.specs.declared.PageLimits.{PageLimits}
use Rattle.paper.specs.Told.{Answer}
use Rattle.paper.specs.Strips.{ParagraphStrips, paragraph_strips, paragraph_has, paragraph_needs}
use Rattle.paper.specs.Strips.{paragraph_written, paragraph_set, paragraph_checked, paragraph_outcome}
use Rattle.paper.specs.Strips.{IndexStrips, index_strips, index_has, index_needs, index_written, index_set, index_checked, index_outcome}
use Rattle.setter.specs.Promise.{ParagraphPromise, IndexPromise}
use Rattle.job.specs.declared.Asked.TheVariants.{Paragraph as AskedParagraph, Index as AskedIndex}
use Rattle.listing.specs.Listing.{holds, space_in, least, starts, move_count}
use Rattle.listing.specs.Asks.{Answered}
use Rattle.listing.proofs.Answers.{answered}

-- the sizes that are lent
zeros : (n : ℕ) → length {A = ℕ} (replicate n 0) ≡ n
zeros n = length-replicate {A = ℕ} n 0

-- ---- the paragraph
abbrev lent_paragraph : ParagraphStrips
lent_paragraph =
    paragraph_strips (replicate 4097 0) (replicate 4097 0) (replicate 4097 0) (replicate 4096 0) (replicate 8192 0) (replicate 4096 0)

pub paragraph_answered : (l : Limits) (ws : List ℕ) {a : Answer} {t : ParagraphStrips} →
    ParagraphPromise (paragraph_outcome l ws lent_paragraph) a t → Answered (AskedParagraph l) ws t.sums t.breaks a
unfolding holds space_in least starts move_count paragraph_outcome paragraph_checked paragraph_set paragraph_written
paragraph_answered l ws p =
    let o = paragraph_checked l ws lent_paragraph in
    answered (AskedParagraph l) ws (λ s. s.sums) (λ s. s.breaks) lent_paragraph (paragraph_has lent_paragraph) (paragraph_needs (length ws))
    (λ c. (o c).answer) (λ c. (o c).strips) (λ b. (paragraph_set l ws lent_paragraph b).answer) (λ r. refl) refl refl
    (λ v. refl) (λ v e. rw e)
    (λ v e. rw e) (omega (arith, zeros 4097)) (omega (arith, zeros 4096)) (λ h. omega (arith, zeros 4097, zeros 4096, zeros 8192))
    p.tells.is p.strips

-- ---- the index
abbrev lent_index : IndexStrips
lent_index =
    let n : List ℕ = replicate 4098 0 in
    index_strips (replicate 4097 0) n n n n (replicate 8192 0) (replicate 4096 0)

pub index_answered : (l : PageLimits) (ws : List ℕ) {a : Answer} {t : IndexStrips} →
    IndexPromise (index_outcome l ws lent_index) a t → Answered (AskedIndex l) ws t.sums t.boundaries a
unfolding holds space_in least starts move_count index_outcome index_checked index_set index_written
index_answered l ws p =
    let o = index_checked l ws lent_index in
    answered (AskedIndex l) ws (λ s. s.sums) (λ s. s.boundaries) lent_index (index_has lent_index) (index_needs (length ws))
    (λ c. (o c).answer) (λ c. (o c).strips) (λ b. (index_set l ws lent_index b).answer) (λ r. refl) refl refl (λ v. refl) (λ v e. rw e)
    (λ v e. rw e) (omega (arith, zeros 4097)) (omega (arith, zeros 4096))
    (λ h. omega (arith, zeros 4097, zeros 4098, zeros 4096, zeros 8192)) p.tells.is p.strips
