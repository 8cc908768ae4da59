-- Whether hook lines have room: as many lines come of them as there are lines but one and hook lines, less those that
-- are spared.
use Rattle.std.specs.Prelude.{◌+◌, ◌-◌, None, Some}
use mathlib.Core.Path.{◌≡◌, refl, sym, ◌∙◌, ap}
use Prim.Native.Nat.{◌≤◌, ◌<◌}
use native.Mathlib.Omega.{arith}
use borrow.Author.Tests.{lt-ltb, le-ltb}
use lib.ListN.{length-map}
use lib.Seq.{length-take-le, sets, sets-eq, take_at}
use Rattle.theory.specs.Basics.{List, map, length, take, ℕ, ℤ}
use Rattle.theory.specs.Limits.{degree_limit}
use Rattle.words.specs.Answers.{Outcome}
use Rattle.pages.specs.Line.{Line}
use Rattle.pages.specs.Mode.{alongside}
use Rattle.pages.specs.Lawful.Gathered.{length-alongside}
use Rattle.gathered.specs.Private.Joining.{place, saved_by, lines_before, next_of, putting}
use Rattle.gathered.specs.Private.Joining.{Joinable}
use Rattle.gathered.specs.Private.Joining.{Joins}
use Rattle.gathered.specs.Private.Joining.{joined_onto}
use Rattle.gathered.proofs.Counted.{next-count}
use Rattle.gathered.proofs.Joined.{spared-all}

module _ (page : List ℕ) (column : List ℤ) (line lines : ℕ) (words : List ℕ) (weights : List ℤ)
    (j : Joinable page column line lines words weights) where
  abbrev xs : List ℕ
  xs = take lines page

  abbrev zs : List ℤ
  zs = take lines column

  abbrev next : List Line
  next = next_of page column line lines words weights

  pub words_long : length xs ≡ lines
  words_long = length-take-le lines page j.fit

  pub weights-long : length zs ≡ lines
  weights-long = length-take-le lines column (omega (arith, j.fit, j.as_long))

  same : length xs ≡ length zs
  same = words_long ∙ sym weights-long

  -- ---- the places
  module _ (room : List ℕ) {all : List ℕ} (long : length room ≡ degree_limit)
      (put : all ≡ sets room 0 (map (place xs) words)) where
    places-fit : 0 + length (map (place xs) words) ≤ length room
    places-fit = omega (arith, length-map words (place xs), j.few)

    pub places-are : take (length words) all ≡ map (place xs) words
    places-are =
        ap (take (length words)) (put ∙ sets-eq (map (place xs) words) room 0 places-fit)
        ∙ take_at (map (place xs) words) _ (length words) (length-map words (place xs))

    module _ {saved : ℕ} (spares-all : saved ≡ saved_by zs (take (length words) all) weights) where
      -- ---- the count
      counts : length next + saved ≡ lines - 1 + length words
      counts =
          let lines_long = length-alongside xs zs same in
          let hooks-long = length-alongside words weights j.weighed in
          omega (
            arith,
            words_long,
            lines_long,
            hooks-long,
            spares-all ∙ ap (λ (ps : List ℕ). saved_by zs ps weights) places-are ∙ spared-all xs zs same words weights,
            next-count (lines_before page column line lines) (alongside words weights) line
                (omega (arith, lines_long, words_long, j.there)) j.different-lines j.lasting-lines
                j.different-hooks j.lasting-hooks j.unlike-struck,
          )

      pub few_saved : saved ≤ 8192
      few_saved = omega (arith, counts, j.fit, j.short, j.few)

      -- ---- a page that is too full, and one that is not
      pub too-full : length page + saved < lines - 1 + length words
          → Outcome (joined_onto page column line lines words weights) None (page, column)
      unfolding joined_onto
      too-full less = rw (lt-ltb (length page) (length next) (omega (arith, counts)))
          (record { answers = refl; leaves = refl })

      module _ (more : lines - 1 + length words ≤ length page + saved) where
        pub joins : Joins page column line lines (take (length words) all) words weights
        joins = record { able = j; placed = places-are; room = omega (arith, counts) }

        pub joined-all : {r : ℕ} {left : List ℕ × List ℤ}
            → Outcome (putting next page column) r left
            → Outcome (joined_onto page column line lines words weights) (Some r) left
        unfolding joined_onto
        joined-all o = rw (le-ltb (length page) (length next) (omega (arith, counts)))
            (record { answers = ap Some o.answers; leaves = o.leaves })
