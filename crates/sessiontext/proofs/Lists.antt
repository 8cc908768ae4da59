-- A partition that is read off a text: what a column of 16 bytes has of its numbers is enough to judge it.
use Rattle.std.specs.Prelude.{◌∷◌, ◌-◌, Option, None, Some, MatchOption}
use Rattle.std.specs.Slice.{IsGetRangeResult}
use denote.Ref.{Bor}
use mathlib.Core.Path.{◌≡◌, refl, sym, ◌∙◌, ap}
use mathlib.Core.Logic.{inl, inr}
use mathlib.Core.Bool.{false≢true}
use Prim.Native.Nat.{◌≤◌, ◌<◌}
use native.Mathlib.Omega.{arith}
use lib.ListN.{length-map}
use borrow.Author.Tests.{ltb-false, le-ltb, not-false}
use Rattle.theory.specs.Basics.{true, false, List, [], map, ℕ, length, ◌<?◌}
use Rattle.theory.proofs.Basics.Keep.{same_test}
use Rattle.theory.specs.Partition.{Parts, is_partition, degree}
use Rattle.theory.proofs.Partition.Laws.{length-degree}
use Rattle.theory.specs.Limits.{degree_limit}
use Rattle.theory.specs.Refusals.{first_of}
use Rattle.theory.proofs.Refusals.Laws.{none-applies}
use Rattle.std.specs.Result.{result_ok}
use Rattle.std.specs.declared.result.Result.{Result}
use Rattle.std.specs.declared.result.Result.TheVariants.{Ok, Err}
use Rattle.words.specs.declared.refusal.Refusal.{Refusal}
use Rattle.words.specs.Answers.{WordAnswer, word_told, worded}
use Rattle.words.proofs.Told.{refuses}
use Rattle.words.specs.Private.Reading.{list_checks}
use Rattle.words.proofs.Callers.{word-given-by}
use Rattle.text.specs.Text.{Text}
use Rattle.text.specs.Wrote.{Wrote}
use Rattle.text.specs.Wrote.Laws.{wrote-length, wrote-take}
use Rattle.textreading.specs.Reading.{small, list_in}
use Rattle.sessiontext.specs.Reading.{in_limit}
use Rattle.sessiontext.specs.Reading.Forms.{InLimit, in-limit, limit-in}
use Rattle.sessiontext.specs.Private.Read.{Tells}

-- ---- small numbers are whole in a byte
small_same : (ns : List ℕ) → degree (map small ns) ≤ degree_limit → map small ns ≡ ns
small_same [] h = refl
small_same (n ∷ ns) h =
    let e : small n ≡ n = omega arith in
    rw (e, small_same ns (omega arith))

same-small : (ns : List ℕ) → degree ns ≤ degree_limit → map small ns ≡ ns
same-small [] h = refl
same-small (n ∷ ns) h =
    let e : small n ≡ n = omega arith in
    rw (e, same-small ns (omega arith))

-- ---- what the call on a part list tells
module _ (large : ℕ) (some : 0 <? large ≡ true) (ps : Parts) where
  rows_pass : InLimit degree_limit ps → first_of (list_checks degree_limit large ps) ≡ 0
  rows_pass i = rw (i.partition, le-ltb degree_limit (degree ps) i.small)

  pass-rows : first_of (list_checks degree_limit large ps) ≡ 0 → InLimit degree_limit ps
  pass-rows e =
      let a = none-applies (list_checks degree_limit large ps) (rw some refl) e in
      record {
        partition = not-false (is_partition ps) a.0;
        small = ltb-false degree_limit (degree ps) a.1.0;
      }

module _ (word_of : Parts → ℕ) (large : ℕ) (some : 0 <? large ≡ true) (ps : Parts) {a : WordAnswer}
    (e : a ≡ worded (list_checks degree_limit large ps) (word_of ps)) where
  word-given : a.refused ≡ 0 → (in_limit degree_limit ps ≡ true) × (a.word ≡ word_of ps)
  word-given z =
      let given = word-given-by (list_checks degree_limit large ps) (word_of ps) a e z in
      (limit-in (pass-rows large some ps given.0), ap (λ (x : WordAnswer). x.word) given.1)

  word-refused : (a.refused ≡ 0 → ⊥) → in_limit degree_limit ps ≡ false
  word-refused n =
      same_test (in_limit degree_limit ps) false
      (λ f. let pass = rows_pass large some ps (in-limit degree_limit ps f) in
      absurd (n (ap (λ (x : WordAnswer). x.refused) e ∙ rw pass refl)))
      (λ b. absurd (false≢true b))

pub word-told : (word_of : Parts → ℕ) (large : ℕ) (some : 0 <? large ≡ true) (ps : Parts) (r : Result ℕ Refusal)
    → word_told r ≡ worded (list_checks degree_limit large ps) (word_of ps)
    → Tells (in_limit degree_limit ps) (word_of ps) (result_ok r)
word-told word_of large some ps (Ok w) e = word-given word_of large some ps e refl
word-told word_of large some ps (Err d) e = word-refused word_of large some ps e (refuses d)

-- ---- the numbers in a text
abbrev pub told_parts : Text → Parts
told_parts t = map small (list_in t)

module _ (t : Text) where
  pub many-parts : 16 < length (list_in t) → in_limit degree_limit (list_in t) ≡ false
  many-parts h =
      same_test (in_limit degree_limit (list_in t)) false
      (λ f. let i = in-limit degree_limit (list_in t) f in
      absurd (omega (arith, length-degree (list_in t) i.partition, i.small)))
      (λ b. absurd (false≢true b))

  pub parts-same : in_limit degree_limit (told_parts t) ≡ true → told_parts t ≡ list_in t
  parts-same f = small_same (list_in t) (in-limit degree_limit (told_parts t) f).small

  pub limit_same : in_limit degree_limit (told_parts t) ≡ in_limit degree_limit (list_in t)
  limit_same =
      same_test (in_limit degree_limit (told_parts t)) (in_limit degree_limit (list_in t))
      (λ f. rw (parts-same f) at f)
      (λ f. let same = same-small (list_in t) (in-limit degree_limit (list_in t) f).small in rw same f)

  pub parts-told : (word_of : Parts → ℕ) (r : Option ℕ) {ps : Parts} → ps ≡ told_parts t
      → Tells (in_limit degree_limit ps) (word_of ps) r → Tells (in_limit degree_limit (list_in t)) (word_of (list_in t)) r
  parts-told word_of None e o = rw (← limit_same, ← e) o
  parts-told word_of (Some w) e o =
      let f = rw e at o.0 in
      (sym limit_same ∙ f, o.1 ∙ ap word_of (e ∙ parts-same f))

  pub parts-got : {column after : List ℕ} {count : ℕ} → length column ≡ 16
      → Wrote (told_parts t) 0 column count after → (r : Option (Bor (List ℕ))) → IsGetRangeResult after 0 count r
      → MatchOption r (16 < length (list_in t)) (λ parts. parts.now ≡ told_parts t)
  parts-got {column} {after} {count} long w None g = elim g.0 [
    | inl h ↦ absurd (omega arith)
    | inr h ↦ omega (arith, w.ends, wrote-length w, length-map (list_in t) small)
  ]
  parts-got {column} {after} {count} long w (Some parts) g =
      let room : length (told_parts t) ≤ length column =
      omega (arith, w.ends, wrote-length w, g.0.1, length-map (list_in t) small) in
      let whole : count - 0 ≡ count = omega arith in
      (rw whole at g.0.2) ∙ wrote-take w (omega arith) room
