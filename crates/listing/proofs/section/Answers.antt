-- `listing::section`: a degree starts after the sum of the counts before it, and the constants are document 01's.
use Rattle.std.proofs.Common.{◌≡◌, refl, sym, ◌∙◌, ap₂, ◌≤◌, ◌∷◌}
use native.Mathlib.Omega.{arith}
use borrow.Author.Tests.{lt-ltb, le-ltb}
use Rattle.theory.specs.Basics.{List, [], ℕ, get_or, take, total}
use Rattle.theory.proofs.Basics.AtPlace.{tabled-at}
use Rattle.theory.specs.Listing.{partition_counts, start}
use Rattle.theory.proofs.Listing.Laws.{count_kept}
use Rattle.theory.proofs.Listing.Words.{start-summed}
use Rattle.theory.specs.Limits.{degree_limit}
use Rattle.listing.specs.Calls.{section_answer, section_of}
use Rattle.listing.proofs.section.Goals as goal

abbrev starts : List ℕ
starts = 0 ∷ 1 ∷ 2 ∷ 4 ∷ 7 ∷ 12 ∷ 19 ∷ 30 ∷ 45 ∷ 67 ∷ 97 ∷ 139 ∷ 195 ∷ 272 ∷ 373 ∷ 508 ∷ 684 ∷ []

start-kept : (n : ℕ) → n ≤ degree_limit → get_or starts n 0 ≡ start n
unfolding partition_counts
start-kept n h =
    tabled-at (λ n. total (take n partition_counts)) starts n refl (omega arith) ∙ sym (start-summed n (omega arith))

pub returns-then-degree-gt-LIMIT : goal.returns-then-degree-gt-LIMIT
unfolding section_of
returns-then-degree-gt-LIMIT c = rw (lt-ltb degree_limit c.args.degree (omega arith))

pub returns : goal.returns
unfolding section_of partition_counts
returns c =
    let n = c.args.degree in
    rw (le-ltb degree_limit n (omega arith))
    (ap₂ (section_answer 0) (start-kept n (omega arith)) (sym (count_kept n (omega arith))))
