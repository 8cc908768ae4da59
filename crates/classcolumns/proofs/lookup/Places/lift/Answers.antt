-- The words of the degree are done one after the other. Their hooks leave words of a lower degree, whose entries stay.
use Rattle.std.proofs.Common.{◌≡◌, ◌≤◌, ◌<◌, ◌∷◌, ◌+◌, ◌∙◌, sym, ap, arith, suc, add-zero, add-one, add_assoc}
use Rattle.std.proofs.lemmas.List.{length-map}
use Rattle.std.proofs.Math.ListN.{set}
use Rattle.theory.specs.Basics.{List, ℕ, ℤ, map, length, drop, get_or}
use Rattle.theory.specs.Partition.{Parts, degree}
use Rattle.theory.specs.ShapeWord.{shape_word}
use Rattle.theory.specs.Listing.{listing, start}
use Rattle.theory.proofs.Listing.Words.{start-next, word_at}
use Rattle.theory.specs.Limits.{degree_limit}
use Rattle.listing.specs.Calls.{words_within}
use Rattle.pages.proofs.Signed.{carried}
use Rattle.characters.specs.Private.Evaluation.{hook_sum}
use Rattle.classcolumns.specs.Private.Places.{place_of, shape_places}
use Rattle.classcolumns.specs.Private.Columns.{entry}
use Rattle.classcolumns.proofs.PlaceLaws.{shapes-placed}
use Rattle.classcolumns.proofs.Sections.{word-read}
use Rattle.classcolumns.proofs.Lifts.{Cut, cut, cut-word, Lifting, NextWord, lift-start, lift-word, lift-next, lift-end}
use Rattle.classcolumns.proofs.lookup.Places.lift.Goals as goal

-- the k-th word of the degree, where a table is lifted by the i-th cycle
record Next (cycles : Parts) (table : List ℤ) (i n k word : ℕ) : Type 0 where
  follows : NextWord degree_limit word (get_or cycles i 0)
  lifts : (place : ℕ) (number : ℤ) → place ≡ place_of word
      → number ≡ hook_sum (entry shape_places table) (get_or cycles i 0) word
      → Lifting shape_places (get_or cycles i 0) (drop (i + 1) cycles) (set table place (carried number)) (start n + (k + 1))

next : (cycles : Parts) (table : List ℤ) (words : List ℕ) (i n k : ℕ) → Cut degree_limit cycles i n → n ≤ degree_limit
    → words ≡ map shape_word (listing n) → k < length words
    → Lifting shape_places (get_or cycles i 0) (drop (i + 1) cycles) table (start n + k)
    → Next cycles table i n k (get_or words k 0)
next cycles table words i n k c small same inside l =
    let (listed, word) = word-read words n k same inside in
    let is : get_or words k 0 ≡ get_or (words_within degree_limit) (start n + k) 0 =
    word ∙ sym (word_at (suc degree_limit) n k (omega arith) listed) in
    let more = cut-word cycles c k listed in
    record {
      follows = lift-word shapes-placed (get_or cycles i 0) (drop (i + 1) cycles) c.all table (start n + k) l more _ is;
      lifts = λ place number at counts.
          rw add_assoc at
          (lift-next shapes-placed (get_or cycles i 0) (drop (i + 1) cycles) c.all table (start n + k) l more _ place number
          is at counts);
    }

pub loop-word-init : goal.loop-word-init
loop-word-init c =
    let here = cut _ _ _ _ c.requires.i_in_bounds.0 c.requires.i_in_bounds.1 c.requires.cycles.0 in
    rw (add-zero, here.starts) (lift-start shapes-placed _ _ _ c.requires.cycles.1)

pub hook_sum-number-requires : goal.hook_sum-number-requires
hook_sum-number-requires c =
    let here = cut _ _ _ _ c.requires.i_in_bounds.0 c.requires.i_in_bounds.1 c.requires.cycles.0 in
    let small : c.args.degree ≤ degree_limit = omega (arith, c.requires.i_in_bounds.1, c.requires.cycles.0.small) in
    let word = (next c.args.cycles.now c.loop-word.table _ c.args.i c.args.degree _ here small c.words_of-word-items.ensures
    c.loop-word-test.true c.loop-word.invariant).follows in
    record { table = c.loop-word.invariant.kept.form; within = (word.within, word.long, word.short) }

pub place-requires : goal.place-requires
place-requires c =
    let here = cut _ _ _ _ c.requires.i_in_bounds.0 c.requires.i_in_bounds.1 c.requires.cycles.0 in
    let small : c.args.degree ≤ degree_limit = omega (arith, c.requires.i_in_bounds.1, c.requires.cycles.0.small) in
    (next c.args.cycles.now c.loop-word.table _ c.args.i c.args.degree _ here small c.words_of-word-items.ensures
    c.loop-word-test.true c.loop-word.invariant).follows.good

pub loop-word-preserved : goal.loop-word-preserved
loop-word-preserved c =
    let here = cut _ _ _ _ c.requires.i_in_bounds.0 c.requires.i_in_bounds.1 c.requires.cycles.0 in
    let small : c.args.degree ≤ degree_limit = omega (arith, c.requires.i_in_bounds.1, c.requires.cycles.0.small) in
    (next c.args.cycles.now c.loop-word.table _ c.args.i c.args.degree _ here small c.words_of-word-items.ensures
    c.loop-word-test.true c.loop-word.invariant).lifts c.place.result c.hook_sum-number.result c.place.ensures.0
    c.hook_sum-number.ensures

pub returns : goal.returns
returns c =
    let here = cut _ _ _ _ c.requires.i_in_bounds.0 c.requires.i_in_bounds.1 c.requires.cycles.0 in
    let all : length c.words_of-word-items.result.now ≡ length (listing c.args.degree) =
    ap length c.words_of-word-items.ensures ∙ length-map (listing c.args.degree) shape_word in
    let past : start (suc (degree (get_or c.args.cycles.now c.args.i 0 ∷ drop (c.args.i + 1) c.args.cycles.now)))
    ≤ start c.args.degree + c.loop-word.word-index =
    omega (arith, rw add-one at here.ends, start-next c.args.degree, c.loop-word-test.false) in
    rw here.whole (lift-end shapes-placed _ _ _ _ past c.loop-word.invariant)
