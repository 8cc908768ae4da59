-- Lines: a text without newlines and one behind it is a line, and the lines one after the other are the text.
--   Line l   l ends in a newline and has no other
--   Cut t    the first line of t is at its front, and behind it are the others
--   Next text at end   the line of the text that starts at `at` ends at `end`
use Rattle.std.specs.Prelude.{◌≡◌, ◌≤◌, ◌<◌, ◌∷◌, ◌++◌, ◌+◌, ◌-◌}
use Rattle.std.proofs.Math.Path.{refl}
use Rattle.std.proofs.Common.{ap, append_assoc, arith, length-drop, drop-drop}
use Rattle.theory.specs.Basics.{Bool, true, false, cond, List, [], ℕ, suc, ◌=?◌, joined, length}
use Rattle.theory.specs.Basics.{get_or, take, drop, Each}
use Rattle.theory.proofs.Basics.Laws.{each_append}
use Rattle.text.specs.Text.{Text, ascii, text_line}
use Rattle.textreading.specs.Reading.{holds, before, in_front, lines_of, first_line}
use Rattle.textreading.specs.Reading.Bytes.{Without}

pub line_first : (t u : Text) → Without 10 t → lines_of (t ++ 10 ∷ u) ≡ (t ++ ascii "\n") ∷ lines_of u
unfolding lines_of
line_first [] u w = refl
line_first (x ∷ t) u w = rw (w.0, line_first t u w.1)

whole-front : (b : ℕ) (ls : List Text) → joined (λ l. l) (in_front b ls) ≡ b ∷ joined (λ l. l) ls
whole-front b [] = refl
whole-front b (l ∷ ls) = refl

pub lines-whole : (t : Text) → joined (λ l. l) (lines_of t) ≡ t
unfolding lines_of
lines-whole [] = refl
lines-whole (b ∷ t) = go (b =? 10) (lines-whole t)
  where
    go : (c : Bool) → joined (λ l. l) (lines_of t) ≡ t
        → joined (λ l. l) (cond c ((b ∷ []) ∷ lines_of t) (in_front b (lines_of t))) ≡ b ∷ t
    go true e = ap (λ (u : Text). b ∷ u) e
    go false e = rw (whole-front b (lines_of t), e)

-- ---- lines one after the other
pub record Line (l : Text) : Type 0 where
  pub body : Text
  pub plain : Without 10 body
  pub whole : l ≡ body ++ ascii "\n"

pub text-line : (name t : Text) → Without 10 name → Without 10 t → Line (text_line name t)
text-line name t n w = record { body = name ++ t; plain = each_append _ name t n w; whole = refl }

pub lines-joined : (ls : List Text) → Each Line ls → lines_of (joined (λ l. l) ls) ≡ ls
lines-joined [] e = unfold lines_of in refl
lines-joined (l ∷ ls) e =
    let b = e.0.body in
    let next = line_first b (joined (λ l. l) ls) e.0.plain in
    rw (e.0.whole, append_assoc b (ascii "\n") (joined (λ l. l) ls), next, lines-joined ls e.1)

-- ---- how many
few-front : (b : ℕ) (ls : List Text) → length (in_front b ls) ≤ suc (length ls)
few-front b [] = omega arith
few-front b (l ∷ ls) = omega arith

pub lines-few : (t : Text) → length (lines_of t) ≤ length t
unfolding lines_of
lines-few [] = omega arith
lines-few (b ∷ t) = go (b =? 10) (lines-few t)
  where
    go : (c : Bool) → length (lines_of t) ≤ length t
        → length (cond c ((b ∷ []) ∷ lines_of t) (in_front b (lines_of t))) ≤ suc (length t)
    go true h = omega arith
    go false h = omega (arith, few-front b (lines_of t))

-- ---- the first line, and those behind it
first-front : (b : ℕ) (ls : List Text) → get_or (in_front b ls) 0 [] ≡ b ∷ get_or ls 0 []
first-front b [] = refl
first-front b (l ∷ ls) = refl

others-front : (b : ℕ) (ls : List Text) → drop 1 (in_front b ls) ≡ drop 1 ls
others-front b [] = refl
others-front b (l ∷ ls) = refl

pub record Cut (t : Text) : Type 0 where
  pub first : take (length (first_line t)) t ≡ first_line t
  pub others : lines_of (drop (length (first_line t)) t) ≡ drop 1 (lines_of t)
  pub ends : length (first_line t) ≡ length (before 10 t) + cond (holds 10 t) 1 0
  pub fits : length (first_line t) ≤ length t
  pub some : 0 < length t → (0 < length (first_line t)) × (0 < length (lines_of t))

some-front : (b : ℕ) (ls : List Text) → 0 < length (in_front b ls)
some-front b [] = omega arith
some-front b (l ∷ ls) = omega arith

pub cut : (t : Text) → Cut t
unfolding lines_of
cut [] = record { first = refl; others = refl; ends = refl; fits = omega arith; some = λ h. absurd (omega arith) }
cut (b ∷ t) = go (b =? 10) refl (cut t)
  where
    go : (c : Bool) → b =? 10 ≡ c → Cut t → Cut (b ∷ t)
    go true e r = record {
      first = rw e refl;
      others = rw e refl;
      ends = rw e refl;
      fits = rw e (omega arith);
      some = λ h. rw e (omega arith, omega arith);
    }
    go false e r =
        let first = first-front b (lines_of t) in
        record {
          first = rw (e, first) (ap (λ (u : Text). b ∷ u) r.first);
          others = rw (e, first, others-front b (lines_of t)) r.others;
          ends = rw (e, first) (omega (arith, r.ends));
          fits = rw (e, first) (omega (arith, r.fits));
          some = λ h. rw (e, first) (omega arith, some-front b (lines_of t));
        }

first-others : (ls : List Text) → 0 < length ls → ls ≡ get_or ls 0 [] ∷ drop 1 ls
first-others [] h = absurd (omega arith)
first-others (l ∷ ls) h = refl

pub record Next (text : Text) (at end : ℕ) : Type 0 where
  pub from : at ≤ end
  pub fits : at ≤ length text → end ≤ length text
  pub line : take (end - at) (drop at text) ≡ first_line (drop at text)
  pub others : lines_of (drop end text) ≡ drop 1 (lines_of (drop at text))
  pub later : at < length text → at < end
  pub split : at < length text → lines_of (drop at text) ≡ first_line (drop at text) ∷ lines_of (drop end text)
  pub fewer : at < length text → suc (length (lines_of (drop end text))) ≡ length (lines_of (drop at text))

pub next : (text : Text) (at end : ℕ) → end ≡ at + length (first_line (drop at text)) → Next text at end
next text at end e =
    let c = cut (drop at text) in
    let left = length-drop at text in
    let size : end - at ≡ length (first_line (drop at text)) = omega arith in
    let behind : drop end text ≡ drop (length (first_line (drop at text))) (drop at text) =
    rw (e, ← drop-drop (length (first_line (drop at text))) at text) refl in
    record {
      from = omega arith;
      fits = λ h. omega (arith, c.fits);
      line = rw size c.first;
      others = rw behind c.others;
      later = λ h. omega (arith, (c.some (omega arith)).0);
      split = λ h. rw (behind, c.others) (first-others (lines_of (drop at text)) (c.some (omega arith)).1);
      fewer = λ h. rw behind
          (omega (arith, ap length c.others, length-drop 1 (lines_of (drop at text)), (c.some (omega arith)).1));
    }
