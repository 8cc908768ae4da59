-- The pass that takes out the lines whose coefficient became 0.
--   Squeezing p c q d t i   the page p and the column c have become q and d: of the first i lines t were kept
use Rattle.std.specs.Prelude.{◌∷◌, ◌++◌, ◌+◌, ◌-◌}
use mathlib.Core.Path.{◌≡◌, refl, sym, ◌∙◌, ap, ap₂}
use mathlib.Core.List.{append-nil, map-append}
use Prim.Native.Nat.{◌≤◌, ◌<◌}
use native.Mathlib.Numerals.{add-one}
use native.Mathlib.Omega.{arith}
use borrow.Author.Tests.{eq-eqb, ne_eqb}
use lib.ListN.{length-append, length-map, length-replicate, length-drop, drop_of_length-le}
use lib.Seq.{take-suc, take_all, get_or_at, length-take-le}
use Rattle.theory.specs.Basics.{List, [], map, length, get_or, set, take, drop, replicate, ℕ}
use Rattle.theory.specs.Basics.{suc}
use Rattle.theory.specs.Basics.{ℤ, pos, nat_abs, keep}
use Rattle.theory.proofs.Basics.Keep.{keep_append}
use Rattle.words.specs.Answers.{Outcome}
use Rattle.pages.specs.Line.{Line}
use Rattle.pages.specs.Page.{word_of}
use Rattle.pages.specs.Mode.{weighted, alongside, unit, words_of, weights_of}
use Rattle.pages.specs.Gathering.{lasting}
use Rattle.gathered.specs.Private.Joining.{kept, putting}
use Rattle.gathered.proofs.Loops.{run, run-split, run-freed, run_moved}

-- ---- lines beside each other
pub alongside-append : (xs : List ℕ) (zs : List ℤ) (ys : List ℕ) (ws : List ℤ) → length xs ≡ length zs
    → alongside (xs ++ ys) (zs ++ ws) ≡ alongside xs zs ++ alongside ys ws
alongside-append [] [] ys ws e = refl
alongside-append [] (z ∷ zs) ys ws e = absurd (omega arith)
alongside-append (x ∷ xs) [] ys ws e = absurd (omega arith)
alongside-append (x ∷ xs) (z ∷ zs) ys ws e =
    ap {B = List Line} (λ ls. weighted x z ∷ ls) (alongside-append xs zs ys ws (omega arith))

-- a word is read and written as it was
pub word_back : (x : ℕ) (z : ℤ) → word_of (unit (weighted x z)) ≡ x
word_back x z = omega arith

pub length-words : (lines : List Line) → length (words_of lines) ≡ length lines
length-words lines = length-map (map unit lines) word_of ∙ length-map lines unit

pub words_more : (lines : List Line) (x : ℕ) (z : ℤ) → words_of (lines ++ weighted x z ∷ []) ≡ words_of lines ++ x ∷ []
words_more lines x z =
    ap (map word_of) (map-append unit lines (weighted x z ∷ []))
    ∙ map-append word_of (map unit lines) (unit (weighted x z) ∷ [])
    ∙ ap (λ (y : ℕ). words_of lines ++ y ∷ []) (word_back x z)

-- ---- one line more
module _ (page : List ℕ) (column : List ℤ) (same : length page ≡ length column) (i : ℕ) (more : i < length page) where
  abbrev before : List Line
  before = kept (take i page) (take i column)

  abbrev next : Line
  next = weighted (get_or page i 0) (get_or column i (pos 0))

  kept_more : kept (take (i + 1) page) (take (i + 1) column) ≡ before ++ keep lasting (next ∷ [])
  kept_more =
      let long = length-take-le i page (omega arith) in
      let long-column = length-take-le i column (omega arith) in
      rw (add-one i, take-suc page i 0 more, take-suc column i (pos 0) (omega arith))
      (ap (keep lasting)
      (alongside-append (take i page) (take i column) (get_or page i 0 ∷ []) (get_or column i (pos 0) ∷ []) (omega arith))
      ∙ keep_append lasting (alongside (take i page) (take i column)) (next ∷ []))

  pub kept-zero : nat_abs (get_or column i (pos 0)) ≡ 0 → kept (take (i + 1) page) (take (i + 1) column) ≡ before
  kept-zero e = kept_more ∙ rw (eq-eqb (nat_abs (get_or column i (pos 0))) 0 e) (append-nil before)

  pub kept-some : (nat_abs (get_or column i (pos 0)) ≡ 0 → ⊥)
      → kept (take (i + 1) page) (take (i + 1) column) ≡ before ++ next ∷ []
  kept-some n = kept_more ∙ rw (ne_eqb (nat_abs (get_or column i (pos 0))) 0 n) refl

-- ---- the loop
pub record Squeezing (page : List ℕ) (column : List ℤ) (p : List ℕ) (c : List ℤ) (to i : ℕ) : Type 0 where
  pub count : length (kept (take i page) (take i column)) ≡ to
  pub within : to ≤ i
  pub inside : i ≤ length page
  pub words : p ≡ run 0 (words_of (kept (take i page) (take i column))) (i - to) page i
  pub weights : c ≡ run (pos 0) (weights_of (kept (take i page) (take i column))) (i - to) column i

module _ (page : List ℕ) (column : List ℤ) (same : length page ≡ length column) where
  pub squeeze-none : Squeezing page column page column 0 0
  squeeze-none = record { count = refl; within = omega arith; inside = omega arith; words = refl; weights = refl }

  module _ {p : List ℕ} {c : List ℤ} {to i : ℕ} (s : Squeezing page column p c to i) where
    abbrev front : List Line
    front = kept (take i page) (take i column)

    words-at : length (words_of front) + (i - to) ≡ i
    words-at = omega (arith, length-words front, s.count, s.within)

    weights-at : length (weights_of front) + (i - to) ≡ i
    weights-at = omega (arith, length-map front (λ l. l.weight), s.count, s.within)

    run_length : {A : Type 0} (e : A) (xs : List A) (q : List A) → length xs + (i - to) ≡ i → length q ≡ length page
        → length (run e xs (i - to) q i) ≡ length page
    run_length e xs q at long = simp (length-append, length-replicate, length-drop) (omega (arith, s.inside))

    pub page-length : length p ≡ length page
    page-length = rw s.words (run_length 0 (words_of front) page words-at refl)

    pub column-length : length c ≡ length page
    column-length = rw s.weights (run_length (pos 0) (weights_of front) column weights-at (sym same))

    module _ (more : i < length page) where
      more-column : i < length column
      more-column = omega arith

      pub word-here : get_or p i 0 ≡ get_or page i 0
      word-here =
          ap (λ (l : List ℕ). get_or l i 0) (s.words ∙ run-split 0 (words_of front) (i - to) page i words-at more)
          ∙ get_or_at (words_of front ++ replicate (i - to) 0) (get_or page i 0) (drop (suc i) page) 0 i
          (rw length-append (simp length-replicate words-at))

      pub weight-here : get_or c i (pos 0) ≡ get_or column i (pos 0)
      weight-here =
          ap (λ (l : List ℤ). get_or l i (pos 0))
          (s.weights ∙ run-split (pos 0) (weights_of front) (i - to) column i weights-at more-column)
          ∙ get_or_at (weights_of front ++ replicate (i - to) (pos 0)) (get_or column i (pos 0)) (drop (suc i) column)
          (pos 0) i
          (rw length-append (simp length-replicate weights-at))

      freed : {A : Type 0} (e : A) (xs : List A) (q r : List A) → length xs + (i - to) ≡ i → i < length q
          → r ≡ run e xs (i - to) q i → set r i e ≡ run e xs (suc (i - to)) q (i + 1)
      freed {A = A} e xs q r at there is = ap (λ (l : List A). set l i e) is ∙ run-freed e xs (i - to) q i at there

      later : suc (i - to) ≡ i + 1 - to
      later = omega (arith, s.within)

      -- a line that became 0
      pub squeeze-zero : nat_abs (get_or c i (pos 0)) ≡ 0
          → Squeezing page column (set p i 0) (set c i (pos 0)) to (i + 1)
      squeeze-zero z =
          let Kept-same = kept-zero page column same i more (ap nat_abs (sym weight-here) ∙ z) in
          record {
            count = ap length Kept-same ∙ s.count;
            within = omega (arith, s.within);
            inside = omega arith;
            words = rw (Kept-same, ← later) (freed 0 (words_of front) page p words-at more s.words);
            weights = rw (Kept-same, ← later)
                (freed (pos 0) (weights_of front) column c weights-at more-column s.weights);
          }

      moved : {A : Type 0} (e v : A) (xs : List A) (q r : List A) (at : length xs + (i - to) ≡ i) (there : i < length q)
          → length xs ≡ to → r ≡ run e xs (i - to) q i
          → set (set r i e) to v ≡ run e (xs ++ v ∷ []) (i + 1 - (to + 1)) q (i + 1)
      moved {A = A} e v xs q r at there long is =
          let gap : i - to ≡ i + 1 - (to + 1) = omega arith in
          ap (λ (l : List A). set l to v) (freed e xs q r at there is)
          ∙ ap (λ (k : ℕ). set (run e xs (suc (i - to)) q (i + 1)) k v) (sym long)
          ∙ run_moved e xs (i - to) q i at there v
          ∙ ap (λ (k : ℕ). run e (xs ++ v ∷ []) k q (i + 1)) gap

      -- and one that stays
      pub squeeze-some : (nat_abs (get_or c i (pos 0)) ≡ 0 → ⊥)
          → Squeezing page column (set (set p i 0) to (get_or p i 0)) (set (set c i (pos 0)) to (get_or c i (pos 0)))
          (to + 1)
          (i + 1)
      squeeze-some n =
          let kept_next = kept-some page column same i more (λ z. n (ap nat_abs weight-here ∙ z)) in
          record {
            count = ap length kept_next ∙ rw length-append (omega (arith, s.count));
            within = omega (arith, s.within);
            inside = omega arith;
            words =
                ap (λ (x : ℕ). set (set p i 0) to x) word-here
                ∙ moved 0 (get_or page i 0) (words_of front) page p words-at more (length-words front ∙ s.count)
                s.words
                ∙ ap (λ (xs : List ℕ). run 0 xs (i + 1 - (to + 1)) page (i + 1))
                (sym (ap words_of kept_next ∙ words_more front (get_or page i 0) (get_or column i (pos 0))));
            weights =
                ap (λ (x : ℤ). set (set c i (pos 0)) to x) weight-here
                ∙ moved (pos 0) (get_or column i (pos 0)) (weights_of front) column c weights-at more-column
                (length-map front (λ l. l.weight) ∙ s.count) s.weights
                ∙ ap (λ (xs : List ℤ). run (pos 0) xs (i + 1 - (to + 1)) column (i + 1))
                (sym (ap weights_of kept_next ∙ map-append (λ (l : Line). l.weight) front _));
          }

  -- ---- the end
  module _ {p : List ℕ} {c : List ℤ} {to i : ℕ} (s : Squeezing page column p c to i) (done : length page ≤ i) where
    ending : {A : Type 0} (e : A) (q : List A) (k : ℕ) → length q ≤ i → i - to ≡ k
        → replicate (i - to) e ++ drop i q ≡ replicate k e
    ending {A = A} e q k l gap =
        ap (λ (r : List A). replicate (i - to) e ++ r) (drop_of_length-le q l) ∙ append-nil (replicate (i - to) e)
        ∙ ap (λ (n : ℕ). replicate n e) gap

    pub squeezed : Outcome (putting (kept page column) page column) to (p, c)
    squeezed =
        let all : kept (take i page) (take i column) ≡ kept page column =
        ap₂ kept (take_all i page done) (take_all i column (omega arith)) in
        let count : to ≡ length (kept page column) = sym s.count ∙ ap length all in
        let words_left : i - to ≡ length page - length (map unit (kept page column)) =
        omega (arith, s.inside, length-map (kept page column) unit) in
        let weights-left : i - to ≡ length column - length (kept page column) = omega (arith, s.inside) in
        record {
          answers = count;
          leaves = ap₂ (λ (a : List ℕ) (b : List ℤ). (a, b))
              (s.words ∙ ap (λ (ls : List Line). run 0 (words_of ls) (i - to) page i) all
              ∙ ap (λ (r : List ℕ). words_of (kept page column) ++ r) (ending 0 page _ done words_left))
              (s.weights ∙ ap (λ (ls : List Line). run (pos 0) (weights_of ls) (i - to) column i) all
              ∙ ap (λ (r : List ℤ). weights_of (kept page column) ++ r)
              (ending (pos 0) column _ (omega arith) weights-left));
        }
