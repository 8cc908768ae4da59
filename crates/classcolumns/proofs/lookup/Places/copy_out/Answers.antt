-- What is left of the entries goes to the places from i on, and the next of them is what the table has for the next word.
use mir.Facts.{to_z-of_z}
use mir.Syntax.{w64}
use Rattle.std.proofs.Common.{◌≡◌, ◌≤◌, ◌<◌, ◌∙◌, ap, arith}
use Rattle.std.proofs.lemmas.List.{length-map}
use Rattle.std.proofs.Math.ListN.{drop_of_length-le}
use borrow.Author.Rules.{sfits_of}
use Rattle.theory.specs.Basics.{List, ℕ, ℤ, map, length, get_or}
use Rattle.theory.specs.ShapeWord.{shape_word}
use Rattle.theory.specs.Listing.{listing}
use Rattle.theory.specs.Limits.{degree_limit}
use Rattle.words.proofs.Columns.{put-start, put_next, put_all}
use Rattle.classcolumns.specs.Private.Places.{shape_places}
use Rattle.classcolumns.specs.Private.Columns.{entries}
use Rattle.classcolumns.proofs.Entries.{entries-length, NextEntry, next-entry}
use Rattle.classcolumns.proofs.Sections.{word-read}
use Rattle.classcolumns.proofs.lookup.Places.copy_out.Goals as goal

next : (table : List ℤ) (degree : ℕ) (words : List ℕ) (i : ℕ) → degree ≤ degree_limit
    → words ≡ map shape_word (listing degree) → i < length words
    → NextEntry shape_places table degree i (get_or words i 0)
next table degree words i small same inside =
    let (listed, word) = word-read words degree i same inside in
    next-entry shape_places table degree i listed (omega arith) small (get_or words i 0) word

pub loop-i-init : goal.loop-i-init
loop-i-init c = put-start _ _ (omega (arith, entries-length shape_places c.args.table.now c.args.degree, c.requires.degree_in_bounds))

pub look-requires : goal.look-requires
look-requires c =
    (next c.args.table.now c.args.degree _ _ c.requires.degree_small c.words_of-word-items.ensures c.loop-i-test.true).good

pub loop-i-preserved : goal.loop-i-preserved
loop-i-preserved c =
    let entry = next c.args.table.now c.args.degree _ _ c.requires.degree_small c.words_of-word-items.ensures c.loop-i-test.true in
    put_next _ _ c.loop-i.invariant (rw (to_z-of_z {w = w64} (sfits_of c.look.type_inv), c.look.ensures) entry.reads)

pub returns : goal.returns
returns c =
    let long = entries-length shape_places c.args.table.now c.args.degree in
    let all : length c.words_of-word-items.result.now ≡ length (listing c.args.degree) =
    ap length c.words_of-word-items.ensures ∙ length-map (listing c.args.degree) shape_word in
    put_all _ _ (omega (arith, c.requires.degree_in_bounds)) c.loop-i.invariant
    (drop_of_length-le (entries shape_places c.args.table.now c.args.degree) (omega (arith, c.loop-i-test.false)))
