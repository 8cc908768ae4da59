-- What the calls on a page do to it: a line is taken out, and a strip of lines is put in its place at the end.
use Rattle.std.specs.Prelude.{◌≡◌, ◌≤◌, ◌∷◌, ◌++◌, ◌+◌, ◌-◌}
use Rattle.std.proofs.Common.{refl, sym, ◌∙◌, ap, arith, append_assoc, add-one, length-append, length-drop, take-take}
use Rattle.std.proofs.Math.Seq.{paste, length-take-le, take_at, drop-append-add}
use Rattle.std.proofs.Math.ListN.{length-replicate}
use Rattle.std.proofs.lemmas.List.{drop-drop, drop-take, set_split}
use Rattle.std.proofs.lemmas.List.Edits.{sets, sets-eq, length-paste, take-paste, drop-paste, paste_all}
use Rattle.theory.specs.Basics.{List, [], length, take, drop, replicate, set, ℕ, zero, suc, Each}
use Rattle.sessions.specs.Private.Pages.{others, taken_out, Exchanges, exchanged}

-- ---- words that are 0
pub zeros-are : (xs : List ℕ) → Each (λ x. x ≡ 0) xs → xs ≡ replicate (length xs) 0
zeros-are [] e = refl
zeros-are (x ∷ xs) e = rw (e.0, ← zeros-are xs e.1)

drop-zeros : (k n : ℕ) → drop k (replicate {A = ℕ} n 0) ≡ replicate (n - k) 0
drop-zeros zero n =
    let e : n - 0 ≡ n = omega arith in
    rw e
drop-zeros (suc k) zero =
    let e : 0 - suc k ≡ 0 = omega arith in
    rw e
drop-zeros (suc k) (suc n) =
    let e : suc n - suc k ≡ n - k = omega arith in
    rw e (drop-zeros k n)

-- ---- a line taken out
-- the n lines behind it move down over it, and the last of their words becomes 0
pub moved-out : (page : List ℕ) (line n next last lines : ℕ) → next ≡ suc line → last ≡ line + n
    → lines ≡ suc (line + n) → lines ≤ length page
    → set (paste page line (drop next page) n) last 0 ≡ taken_out page line lines
unfolding taken_out
moved-out page line n next last lines behind end all fit =
    let later : List ℕ = drop (suc line) page in
    let moved : List ℕ = paste page line later n in
    let some : n ≤ length later = omega (arith, length-drop (suc line) page) in
    let before : line ≤ length page = omega arith in
    let back : drop (suc (line + n)) moved ≡ drop (suc (line + n)) page =
    rw (← add-one (line + n), ← drop-drop 1 (line + n) moved, drop-paste page line later n before some) (drop-drop 1 (line + n) page) in
    let added : suc (line + n) ≡ suc line + n = omega arith in
    let kept : drop (suc line) (take (suc (line + n)) page) ≡ take n later = rw added (drop-take (suc line) n page) in
    rw (behind, end, all, set_split moved (line + n) 0 (omega (arith, length-paste page line later n (omega arith) some)), take-paste page line later n before some, back, kept, take-take line (suc (line + n)) page (omega arith))

-- ---- a strip put
pub put-strip : (page strip : List ℕ) (at : ℕ) → at + length strip ≤ length page
    → paste page at strip (length strip) ≡ sets page at strip
put-strip page strip at room =
    paste_all page at strip (length strip) refl
    ∙ sym (append_assoc (take at page) strip (drop (at + length strip) page))
    ∙ sym (sets-eq strip page at room)

-- ---- a line exchanged for a strip
module _ (page : List ℕ) (line lines : ℕ) (strip : List ℕ) (e : Exchanges page line lines strip) where
  length-others : length (others page line lines) ≡ lines - 1
  length-others = omega (
    arith,
    e.there,
    length-append (take line (take lines page)) (drop (suc line) (take lines page)),
    length-take-le line (take lines page) (omega (arith, length-take-le lines page e.fit, e.there)),
    length-drop (suc line) (take lines page),
    length-take-le lines page e.fit,
  )

  pub out-and-put : sets (taken_out page line lines) (lines - 1) strip ≡ exchanged page line lines strip
  unfolding taken_out
  out-and-put =
      let front : List ℕ = others page line lines in
      let m : ℕ = suc (length page - lines) in
      let zeros : drop lines page ≡ replicate (length page - lines) 0 =
      zeros-are (drop lines page) e.zeros ∙ ap (λ (k : ℕ). replicate k 0) (length-drop lines page) in
      let whole : List ℕ = front ++ replicate m 0 in
      let long : length whole ≡ length page =
      rw (length-append, length-replicate) (omega (arith, length-others, e.there, e.fit)) in
      let after : m - length strip ≡ length page - length (front ++ strip) =
      omega (arith, length-append front strip, length-others, e.there, e.fit) in
      let seam : drop (lines - 1 + length strip) whole ≡ drop (length strip) (replicate m 0) =
      rw (← length-others) (drop-append-add front (replicate m 0) (length strip)) in
      ap (λ (r : List ℕ). sets (front ++ 0 ∷ r) (lines - 1) strip) zeros
      ∙ sets-eq strip whole (lines - 1) (omega (arith, e.room))
      ∙ rw (take_at front (replicate m 0) (lines - 1) length-others, seam, drop-zeros (length strip) m, after)
