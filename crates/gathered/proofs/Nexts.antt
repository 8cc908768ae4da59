-- What the code leaves of a page, its column and the hook lines that are joined to it: the lines that come of it,
-- written down.
use Rattle.std.specs.Prelude.{◌∷◌, ◌++◌, ◌+◌, ◌-◌}
use mathlib.Core.Path.{◌≡◌, refl, sym, ◌∙◌, ap, ap₂}
use mathlib.Core.List.{map-append, append_assoc, append-nil}
use Prim.Native.Nat.{◌≤◌}
use native.Mathlib.Nat.{zero-add, suc-add}
use native.Mathlib.Omega.{arith}
use borrow.Author.Tests.{eqb-true}
use lib.ListN.{length-append, length-map, length-drop, length-replicate, length-set}
use lib.Seq.{length-take-le, sets, set_at, append_snoc}
use Rattle.theory.specs.Basics.{true, List, [], map, length, set, take, drop, replicate, ℕ, zero, suc}
use Rattle.theory.specs.Basics.{ℤ, pos, negsuc, nat_abs, ◌=?◌, keep, every, Each}
use Rattle.theory.proofs.Basics.Laws.{both, each_same}
use Rattle.theory.proofs.Basics.Keep.{every-each, length-keep}
use Rattle.words.specs.Answers.{Outcome}
use Rattle.pages.specs.Line.{Line}
use Rattle.pages.specs.Page.{word_of}
use Rattle.pages.specs.Mode.{alongside, unit, words_of, weights_of}
use Rattle.pages.specs.Gathering.{lasting}
use Rattle.pages.specs.Gathering.AtOnce.{bring, is_new}
use Rattle.pages.specs.Sound.Laws.{all-zero}
use Rattle.pages.specs.Lawful.Gathered.{length-alongside}
use Rattle.gathered.specs.Private.Joining.{place, raised, picked, stayed, lines_before, rest_of, next_of}
use Rattle.gathered.specs.Private.Joining.{putting, Joins}
use Rattle.gathered.proofs.Counted.{next-parts}
use Rattle.gathered.proofs.Joined.{length-raised, stayed-is, picked_words, picked-weights}
use Rattle.gathered.proofs.Squeezing.{length-words}

-- ---- equal elements
module _ {A : Type 0} (e : A) where
  all_are : (xs : List A) → Each (λ x. x ≡ e) xs → xs ≡ replicate (length xs) e
  all_are [] each = refl
  all_are (x ∷ xs) each = ap₂ ◌∷◌ each.0 (all_are xs each.1)

  twice : (m n : ℕ) → replicate m e ++ replicate n e ≡ replicate (m + n) e
  twice zero n = ap (λ (k : ℕ). replicate k e) (sym (zero-add n))
  twice (suc m) n = ap {B = List A} (λ ys. e ∷ ys) (twice m n) ∙ ap (λ (k : ℕ). replicate k e) (sym (suc-add m n))

  tail : (front : List A) (m n k : ℕ) → m + n ≡ k → (front ++ replicate m e) ++ replicate n e ≡ front ++ replicate k e
  tail front m n k is =
      append_assoc front (replicate m e) (replicate n e)
      ∙ ap (λ (ys : List A). front ++ ys) (twice m n ∙ ap (λ (i : ℕ). replicate i e) is)

  -- a list put at the end of a front
  put-end : (front vs : List A) (k : ℕ) → length vs ≤ k
      → sets (front ++ replicate k e) (length front) vs ≡ (front ++ vs) ++ replicate (k - length vs) e
  put-end front [] k l =
      let all : k ≡ k - 0 = omega arith in
      ap₂ (λ (ys : List A) (n : ℕ). ys ++ replicate n e) (sym (append-nil front)) all
  put-end front (v ∷ vs) zero l = absurd (omega arith)
  put-end front (v ∷ vs) (suc k) l =
      let at : suc (length front) ≡ length (front ++ v ∷ []) = rw length-append (omega arith) in
      let rest : k - length vs ≡ suc k - suc (length vs) = omega arith in
      ap (λ (ys : List A). sets ys (suc (length front)) vs)
      (set_at front e (replicate k e) v (length front) refl ∙ sym (append_snoc front v (replicate k e)))
      ∙ ap (λ (n : ℕ). sets ((front ++ v ∷ []) ++ replicate k e) n vs) at
      ∙ put-end (front ++ v ∷ []) vs k (omega arith)
      ∙ ap₂ (λ (ys : List A) (n : ℕ). ys ++ replicate n e) (append_snoc front v vs) rest

no_number : (z : ℤ) → nat_abs z =? 0 ≡ true → z ≡ pos 0
no_number (pos n) t = ap pos (eqb-true n 0 t)
no_number (negsuc n) t = absurd (omega (arith, eqb-true (suc n) 0 t))

module _ (page : List ℕ) (column : List ℤ) (line lines : ℕ) (places words : List ℕ) (weights : List ℤ)
    (j : Joins page column line lines places words weights) where
  abbrev xs : List ℕ
  xs = take lines page

  abbrev zs : List ℤ
  zs = take lines column

  abbrev hooks : List Line
  hooks = alongside words weights

  abbrev left : List Line
  left = stayed xs zs line places weights

  abbrev new : List Line
  new = keep (is_new (lines_before page column line lines)) hooks

  abbrev next : List Line
  next = next_of page column line lines words weights

  pub words_long : length xs ≡ lines
  words_long = length-take-le lines page j.able.fit

  pub weights-long : length zs ≡ lines
  weights-long = length-take-le lines column (omega (arith, j.able.fit, j.able.as_long))

  pub same : length xs ≡ length zs
  same = words_long ∙ sym weights-long

  lines_long : length (lines_before page column line lines) ≡ lines
  lines_long = length-alongside xs zs same ∙ words_long

  pub places-long : length places ≡ length words
  places-long = ap length j.placed ∙ length-map words (place xs)

  -- ---- the lines that come of it
  left_is : left ≡ keep lasting (map (bring hooks) (rest_of page column line lines))
  left_is = rw j.placed (stayed-is xs zs line words weights same j.able.different-lines)

  pub next-is : next ≡ left ++ new
  next-is =
      next-parts (lines_before page column line lines) hooks line (omega (arith, lines_long, j.able.there))
      j.able.different-lines
      j.able.lasting-lines j.able.different-hooks j.able.lasting-hooks j.able.unlike-struck
      ∙ ap (λ (ls : List Line). ls ++ new) (sym left_is)

  next-length : length next ≡ length left + length new
  next-length = ap length next-is ∙ length-append left new

  new-words : picked lines places words ≡ words_of new
  new-words = rw j.placed (ap (λ (n : ℕ). picked n (map (place xs) words) words) (sym words_long)
      ∙ picked_words xs zs same words weights j.able.weighed)

  new-weights : picked lines places weights ≡ weights_of new
  new-weights = rw j.placed (ap (λ (n : ℕ). picked n (map (place xs) words) weights) (sym words_long)
      ∙ picked-weights xs zs same words weights)

  pub new-count : length (picked lines places words) ≡ length new
  new-count = ap length new-words ∙ length-words new

  words-next : words_of next ≡ words_of left ++ words_of new
  words-next =
      ap words_of next-is ∙ ap (map word_of) (map-append unit left new) ∙ map-append word_of (map unit left) (map unit new)

  weights-next : weights_of next ≡ weights_of left ++ weights_of new
  weights-next = ap weights_of next-is ∙ map-append (λ (l : Line). l.weight) left new

  left-few : length left ≤ lines
  left-few =
      let now : List ℤ = set (raised zs places weights) line (pos 0) in
      let long : length xs ≡ length now =
      same ∙ sym (length-set (raised zs places weights) line (pos 0) ∙ length-raised zs places weights) in
      omega (arith, length-keep lasting (alongside xs now), length-alongside xs now long, words_long)

  -- ---- behind the lines all is 0
  idle-words : drop lines page ≡ replicate (length page - lines) 0
  idle-words =
      let b = both (every (◌=? 0) (drop lines page)) (every (λ z. nat_abs z =? 0) (drop lines column)) j.able.idle in
      all_are 0 (drop lines page) (all-zero (drop lines page) b.0)
      ∙ ap (λ (n : ℕ). replicate n 0) (length-drop lines page)

  idle-weights : drop lines column ≡ replicate (length column - lines) (pos 0)
  idle-weights =
      let b = both (every (◌=? 0) (drop lines page)) (every (λ z. nat_abs z =? 0) (drop lines column)) j.able.idle in
      all_are (pos 0) (drop lines column)
      (each_same _ (λ z. z ≡ pos 0) (drop lines column) no_number
      (every-each (λ z. nat_abs z =? 0) (drop lines column) b.1))
      ∙ ap (λ (n : ℕ). replicate n (pos 0)) (length-drop lines column)

  -- ---- the lines that stay, written down
  module _ {r : ℕ} {p : List ℕ} {c : List ℤ}
      (o : Outcome (putting left xs zs) r (p, c)) where
    page-then : p ++ drop lines page ≡ words_of left ++ replicate (length page - length left) 0
    page-then =
        ap₂ ◌++◌ (ap (λ (x : List ℕ × List ℤ). x.0) o.leaves) idle-words
        ∙ tail 0 (words_of left) (length xs - length (map unit left)) (length page - lines) (length page - length left)
        (omega (arith, left-few, j.able.fit, words_long, length-map left unit))

    column-then : c ++ drop lines column ≡ weights_of left ++ replicate (length column - length left) (pos 0)
    column-then =
        ap₂ ◌++◌ (ap (λ (x : List ℕ × List ℤ). x.1) o.leaves) idle-weights
        ∙ tail (pos 0) (weights_of left) (length zs - length left) (length column - lines) (length column - length left)
        (omega (arith, left-few, j.able.fit, j.able.as_long, weights-long))

    pub page-long : length (p ++ drop lines page) ≡ length page
    page-long =
        ap length page-then ∙ simp (length-append, length-replicate)
        (omega (arith, length-words left, left-few, j.able.fit))

    pub column-long : length (c ++ drop lines column) ≡ length page
    column-long =
        ap length column-then
        ∙ simp (length-append, length-replicate, length-map) (omega (arith, left-few, j.able.fit, j.able.as_long))

    pub room : r + length (picked lines places words) ≤ length page
    room = omega (arith, o.answers, new-count, next-length, j.room)

    pub appended : {s : ℕ} {q : List ℕ} {d : List ℤ} → s ≡ r + length (picked lines places words)
        → q ≡ sets (p ++ drop lines page) r (picked lines places words)
        → d ≡ sets (c ++ drop lines column) r (picked lines places weights)
        → Outcome (putting next page column) s (q, d)
    appended es eq ed =
        let fit_words : length (words_of new) ≤ length page - length left =
        omega (arith, length-words new, next-length, j.room) in
        let fit-weights : length (weights_of new) ≤ length column - length left =
        omega (arith, length-map new (λ l. l.weight), next-length, j.room, j.able.as_long) in
        let words-after : length page - length left - length (words_of new) ≡ length page - length (map unit next) =
        omega (arith, length-words new, next-length, length-map next unit) in
        let weights-after : length column - length left - length (weights_of new) ≡ length column - length next =
        omega (arith, length-map new (λ l. l.weight), next-length) in
        record {
          answers = omega (arith, es, o.answers, new-count, next-length);
          leaves = ap₂ (λ (a : List ℕ) (b : List ℤ). (a, b))
              (eq
              ∙ ap₂ (λ (l : List ℕ) (vs : List ℕ). sets l r vs) page-then new-words
              ∙ ap (λ (n : ℕ). sets (words_of left ++ replicate (length page - length left) 0) n (words_of new))
              (o.answers ∙ sym (length-words left))
              ∙ put-end 0 (words_of left) (words_of new) (length page - length left) fit_words
              ∙ ap₂ (λ (l : List ℕ) (n : ℕ). l ++ replicate n 0) (sym words-next) words-after)
              (ed
              ∙ ap₂ (λ (l : List ℤ) (vs : List ℤ). sets l r vs) column-then new-weights
              ∙ ap (λ (n : ℕ). sets (weights_of left ++ replicate (length column - length left) (pos 0)) n
              (weights_of new))
              (o.answers ∙ sym (length-map left (λ l. l.weight)))
              ∙ put-end (pos 0) (weights_of left) (weights_of new) (length column - length left) fit-weights
              ∙ ap₂ (λ (l : List ℤ) (n : ℕ). l ++ replicate n (pos 0)) (sym weights-next) weights-after);
        }
