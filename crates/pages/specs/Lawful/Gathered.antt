-- The laws of the gathered mode: a line is read from its word and its coefficient as it was written, whatever the
-- coefficient is, and lines that are gathered stay so.
--   Roomy l   the line l can be written down: its class word has room beside its shape word
use Rattle.std.specs.Prelude.{◌≡◌, refl, ◌≤◌, ◌<◌, ◌∷◌, ◌++◌, ◌+◌, ◌-◌, ◌*◌, ◌/◌, ◌%◌, ◌^◌}
use Rattle.std.proofs.Common.{sym, ◌∙◌, ap, ap₂, arith, ltb-false, le-ltb, eqb-true, eq-eqb, length-append, length-take-le, take_at, drop_at}
use Rattle.std.proofs.lemmas.Bool.{not-false}
use Rattle.std.proofs.lemmas.List.{length-map, length-replicate}
use Rattle.theory.specs.Basics.{true, List, [], map, length, get_or, take, drop, replicate, ℕ, zero, suc}
use Rattle.theory.specs.Basics.{ℤ, pos, nat_abs, ◌=?◌, every, Each}
use Rattle.theory.proofs.Basics.Laws.{both}
use Rattle.theory.proofs.Basics.Keep.{each-others, every-each, each-every}
use Rattle.theory.specs.Limits.{page_limit}
use Rattle.theory.specs.Refusals.{first_of}
use Rattle.theory.proofs.Refusals.Laws.{none-applies}
use Rattle.pages.specs.Line.{Line}
use Rattle.pages.specs.Gathering.{lasting, distinct, gathered}
use Rattle.pages.specs.Gathering.Laws.{each-gathered, worth-gathered}
use Rattle.pages.specs.Gathering.Sound.{sound-gathered, values-gathered, spans-gathered}
use Rattle.pages.specs.Gathering.Different.{different-none, one_more, gathered_none, gathered-gather}
use Rattle.pages.specs.Gathering.Different.{different-others}
use Rattle.pages.specs.Page.{word_of, line_at, padded}
use Rattle.pages.specs.Page.Padded.{length-padded, zeros-padded}
use Rattle.pages.specs.Mode.{weighted, alongside, unit, words_of, weights_of, gathered_mode}
use Rattle.pages.specs.Sound.Laws.{zero-all}
use Rattle.pages.specs.Lawful.{Lawful}

abbrev pub Roomy : Line → Type 0
Roomy l = l.class < 2 ^ 32

-- ---- what is lent
module _ (page : List ℕ) (column : List ℤ) where
  pub as_long : first_of (gathered_mode.lent_checks (page, column)) ≡ 0
      → (length page ≤ page_limit) × (length page ≡ length column)
  as_long none =
      let (short, (same, _)) = none-applies (gathered_mode.lent_checks (page, column)) refl none in (
        ltb-false page_limit (length page) short,
        eqb-true (length page) (length column) (not-false (length page =? length column) same),
      )

  pub lent-passes : length page ≤ page_limit → length page ≡ length column
      → first_of (gathered_mode.lent_checks (page, column)) ≡ 0
  lent-passes short same =
      rw (le-ltb page_limit (length page) short, eq-eqb (length page) (length column) same) refl

-- ---- lines that are read
pub length-alongside : (page : List ℕ) (column : List ℤ) → length page ≡ length column
    → length (alongside page column) ≡ length page
length-alongside [] column e = refl
length-alongside (x ∷ page) [] e = absurd (omega arith)
length-alongside (x ∷ page) (z ∷ column) e = ap suc (length-alongside page column (omega arith))

pub roomy-alongside : (page : List ℕ) (column : List ℤ) → Each Roomy (alongside page column)
roomy-alongside [] column = tt
roomy-alongside (x ∷ page) [] = tt
roomy-alongside (x ∷ page) (z ∷ column) = (omega arith, roomy-alongside page column)

-- the line at a place is the word there with the coefficient beside it
pub alongside-at : (page : List ℕ) (column : List ℤ) (i : ℕ) → length page ≡ length column → i < length page
    → line_at (alongside page column) i ≡ weighted (get_or page i 0) (get_or column i (pos 0))
alongside-at [] column i e h = absurd (omega arith)
alongside-at (x ∷ page) [] i e h = absurd (omega arith)
alongside-at (x ∷ page) (z ∷ column) zero e h = refl
alongside-at (x ∷ page) (z ∷ column) (suc i) e h = alongside-at page column i (omega arith) (omega arith)

-- ---- lines that are written and read
weighted-read : (l : Line) → Roomy l → weighted (word_of (unit l)) l.weight ≡ l
weighted-read l room =
    let shape : ((0 + l.shape) * 2 ^ 32 + l.class) / 2 ^ 32 ≡ l.shape = omega arith in
    let class : ((0 + l.shape) * 2 ^ 32 + l.class) % 2 ^ 32 ≡ l.class = omega arith in
    rw (shape, class)

alongside-read : (lines : List Line) → Each Roomy lines
    → alongside (words_of lines) (weights_of lines) ≡ lines
alongside-read [] e = refl
alongside-read (l ∷ lines) e = ap₂ ◌∷◌ (weighted-read l e.0) (alongside-read lines e.1)

no-weights : (n : ℕ) → every (λ z. nat_abs z =? 0) (replicate n (pos 0)) ≡ true
no-weights zero = refl
no-weights (suc n) = no-weights n

module _ (lines : List Line) (page : List ℕ) (column : List ℤ) where
  count : length (map unit lines) ≡ length lines
  count = length-map lines unit

  abbrev after : List ℤ
  after = replicate (length column - length lines) (pos 0)

  pub length-weights : length lines ≤ length column → length (weights_of lines ++ after) ≡ length column
  length-weights room = simp (length-append, length-replicate, length-map) (omega arith)

  pub length-words : length lines ≤ length page → length (padded (map unit lines) page) ≡ length page
  length-words room = length-padded (map unit lines) page (omega (arith, count))

  pub read-put : Each Roomy lines → gathered_mode.waits (length lines) (gathered_mode.put lines (page, column)) ≡ lines
  read-put e =
      ap₂ alongside
      (take_at (words_of lines) _ (length lines) (length-map (map unit lines) word_of ∙ count))
      (take_at (weights_of lines) after (length lines) (length-map lines _))
      ∙ alongside-read lines e

  pub zeros-put : gathered_mode.idle (length lines) (gathered_mode.put lines (page, column)) ≡ true
  zeros-put =
      let written : List ℕ = padded (map unit lines) page in
      let words : every (◌=? 0) (drop (length lines) written) ≡ true =
      ap (λ n. every (◌=? 0) (drop n written)) (sym count)
      ∙ zero-all (drop (length (map unit lines)) written) (zeros-padded (map unit lines) page) in
      rw (
        words,
        drop_at (weights_of lines) after (length lines) (length-map lines (λ l. l.weight)),
        no-weights (length column - length lines),
      )

-- ---- lines that stand together
pub gathered-one : (l : Line) → nat_abs l.weight ≡ 1 → gathered (l ∷ []) ≡ true
gathered-one l one = rw (one_more l [] tt different-none, one)

pub gathered-others : (i : ℕ) (lines : List Line) → gathered lines ≡ true
    → gathered (take i lines ++ drop (suc i) lines) ≡ true
gathered-others i lines stands =
    let b = both (distinct lines) (every lasting lines) stands in
    let others : List Line = take i lines ++ drop (suc i) lines in
    rw (
      different-others lines i b.0,
      each-every lasting others (each-others _ lines i (every-each lasting lines b.1)),
    )

pub gathered-more : (xs ys : List Line) → gathered xs ≡ true → gathered (gathered_mode.join xs ys) ≡ true
gathered-more xs ys stands = gathered-gather xs ys (both (distinct xs) (every lasting xs) stands).0

pub put_same : (lines : List Line) (x y : gathered_mode.Lent) → first_of (gathered_mode.lent_checks x) ≡ 0
    → first_of (gathered_mode.lent_checks y) ≡ 0 → length x.0 ≡ length y.0
    → gathered_mode.put lines x ≡ gathered_mode.put lines y
put_same lines (page, column) (page', column') a b e =
    let first = (as_long page column a).1 in
    let second = (as_long page' column' b).1 in
    let columns : length column ≡ length column' = sym first ∙ e ∙ second in
    rw (e, columns) refl

unfoldable pub gathered-lawful : Lawful gathered_mode
gathered-lawful = record {
  numbered = λ x. refl;
  short = λ x none. (as_long x.0 x.1 none).0;
  waits-length = λ n x none fit.
      let same = (as_long x.0 x.1 none).1 in
      let words = length-take-le n x.0 fit in
      let weights = length-take-le n x.1 (omega arith) in
      length-alongside (take n x.0) (take n x.1) (words ∙ sym weights) ∙ words;
  Written = Roomy;
  written-waits = λ n x. roomy-alongside (take n x.0) (take n x.1);
  written-unit = λ l unit shape class. class;
  written-like = λ l y w size shape class. class;
  waits-put = λ lines x w. read-put lines x.0 x.1 w;
  idle-put = λ lines x. zeros-put lines x.0 x.1;
  length-put = λ lines x room. length-words lines x.0 x.1 room;
  lent-put = λ lines x none room.
      let (short, same) = as_long x.0 x.1 none in
      let words = length-words lines x.0 x.1 room in
      let weights = length-weights lines x.0 x.1 (omega arith) in
      let written = gathered_mode.put lines x in
      lent-passes written.0 written.1 (omega (arith, words)) (words ∙ same ∙ sym weights);
  put-alike = put_same;
  written-join = λ xs ys. each-gathered Roomy (λ l z w. w) xs ys;
  sound-join = sound-gathered;
  worth-join = worth-gathered;
  values_join = values-gathered;
  spans-join = spans-gathered;
  stands-none = gathered_none;
  stands_one = gathered-one;
  stands-without = gathered-others;
  stands-join = gathered-more;
  own-unit = λ l w. refl;
  own-words = λ l. (refl, refl);
}
