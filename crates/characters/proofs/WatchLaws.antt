-- From the tests of a watch, in any mode, to what it is promised to answer, and the numbers of a ratio.
--   Watching ..   what it tells that no check refuses a watch
use Rattle.std.specs.Prelude.{◌∷◌, ◌+◌, ◌^◌, ◌+ℤ◌}
use mathlib.Core.Path.{◌≡◌, refl, sym, ◌∙◌, ap}
use Prim.Native.Nat.{◌≤◌, ◌<◌}
use native.Mathlib.Decide.{dec_le, dec_lt}
use native.Mathlib.Omega.{arith}
use borrow.Author.Tests.{le-leb, lt-leb}
use lib.Ieee.{binary64, of_int, div}
use lib.IntN.{+ℤ_idl}
use Rattle.theory.specs.Basics.{cond, List, [], ℕ, ℤ, pos, nat_abs, ◌≤?◌, sum, Each}
use Rattle.theory.proofs.Basics.Laws.{each_same}
use Rattle.theory.specs.Bounds.Laws.{largest_limit}
use Rattle.theory.specs.ShapeWord.{shape_of}
use Rattle.theory.proofs.ShapeWord.Good.{good-shape}
use Rattle.theory.specs.Character.{character_degree}
use Rattle.theory.specs.Refusals.{Check, first_of, shape_checks, no-8}
use Rattle.theory.proofs.Refusals.Laws.{both-pass, first-refuses, first_passes, or-refused, or-given}
use Rattle.theory.proofs.Refusals.Laws.{shape-passes}
use Rattle.std.specs.Prelude.{IsOk}
use Rattle.std.specs.declared.result.Result.{Result}
use Rattle.std.specs.declared.result.Result.TheVariants.{Ok, Err}
use Rattle.words.specs.declared.refusal.Refusal.{Refusal}
use Rattle.words.specs.Answers.{number_answer, number_told, NumberAnswer}
use Rattle.words.proofs.Told.{refuses}
use Rattle.words.proofs.Factorials.{factorial-fits}
use Rattle.pages.specs.Line.{Line, line_degree, signed_character}
use Rattle.pages.specs.declared.Slip.{Slip}
use Rattle.pages.specs.Page.{line_of}
use Rattle.pages.specs.Page.Words.{unit-weight}
use Rattle.pages.specs.Mode.{Mode, waiting_in}
use Rattle.pages.specs.Sound.{line_value, page_checks_in}
use Rattle.pages.specs.Sound.Laws.{SoundLine, line-wider, asked, values, SoundLines, SoundIn}
use Rattle.pages.specs.Sound.Bounds.{asked-within, line-bounded, lines-bounded}
use Rattle.pages.specs.Lawful.{Lawful}
use Rattle.pages.specs.Lawful.Checks.{numbered-page, passed-page}
use Rattle.pages.proofs.Signed.{carried, carried-is}
use Rattle.characters.specs.Calls.{shape_character_degree}
use Rattle.characters.specs.Watch.{Value, none, ratio, kind_checks, shown_in, watch_checks_in, watch_in}
use Rattle.characters.specs.Watch.Ratios.{ratio_limit, Exact, line-exact}
use Rattle.characters.proofs.LineValues.{word_value}

-- ---- why a kind and a line are refused
module _ (kind lines line : ℕ) where
  abbrev asks : ℕ
  asks = first_of (kind_checks kind lines line)

  pub kind-zero : kind ≡ 0 → 15 ≡ asks
  kind-zero z = sym (rw (lt-leb 1 kind (omega arith)))

  module _ (some : kind ≡ 0 → ⊥) where
    pub kind-above : 5 < kind → 15 ≡ asks
    kind-above above = sym (rw (le-leb 1 kind (omega arith), lt-leb kind 5 above))

    module _ (within : kind ≤ 5) where
      kind-passes : asks ≡ first_of (cond (kind ≤? 2) (no-8 lines line ∷ []) [])
      kind-passes = rw (le-leb 1 kind (omega arith), le-leb kind 5 within)

      pub line-unasked : 2 < kind → 0 ≡ asks
      line-unasked above = sym (kind-passes ∙ rw (lt-leb kind 2 above))

      module _ (of-line : kind ≤ 2) where
        pub line-missing : lines ≤ line → 8 ≡ asks
        line-missing l = sym (kind-passes ∙ rw (le-leb kind 2 of-line, le-leb lines line l))

        pub line-there : line < lines → 0 ≡ asks
        line-there l = sym (kind-passes ∙ rw (le-leb kind 2 of-line, lt-leb lines line l))

-- ---- why a watch is refused
module _ {m : Mode} (law : Lawful m) (limit : ℕ) (slip : Slip) (x : m.Lent) (kind line : ℕ) where
  abbrev behind : List Check
  behind = kind_checks kind slip.lines line

  abbrev first : ℕ
  first = first_of (watch_checks_in m limit slip x kind line)

  pub page-first : (k : ℕ) → k ≡ first_of (page_checks_in m limit slip x) → (k ≡ 0 → ⊥) → k ≡ first
  page-first k e some = e ∙ sym (first-refuses (page_checks_in m limit slip x) behind (λ z. some (e ∙ z)))

  pub kind-first : (k : ℕ) → k ≡ first_of behind → first_of (page_checks_in m limit slip x) ≡ 0 → k ≡ first
  kind-first k e clear =
      e ∙ sym (first_passes (page_checks_in m limit slip x) behind (numbered-page law limit slip x) clear)

  -- ---- the watch
  abbrev Shows : ℕ → Value → Type 0
  Shows k v = ◌≡◌ {A = ℕ × Value} (k, v) (watch_in m limit slip x kind line)

  pub watch-refused : (k : ℕ) → k ≡ first → (k ≡ 0 → ⊥) → Shows k none
  unfolding watch_in
  watch-refused k e some = sym (rw (← e) (or-refused {A = ℕ × Value} (λ k. (k, none)) _ k some))

  pub record Watching : Type 0 where
    pub lent : first_of (m.lent_checks x) ≡ 0
    pub soundness : SoundIn m limit slip x
    pub some : 1 ≤ kind
    pub within : kind ≤ 5
    pub there : kind ≤ 2 → line < slip.lines
    pub shows : Shows 0 (shown_in m slip (waiting_in m slip x) line kind)

  pub watching : (k : ℕ) → k ≡ first → k ≡ 0 → Watching
  unfolding watch_in
  watching k e z =
      let pass : first ≡ 0 = sym e ∙ z in
      let (clear, asked) = both-pass (page_checks_in m limit slip x) behind (numbered-page law limit slip x) pass in
      let some : kind ≡ 0 → ⊥ = λ none. omega (arith, kind-zero kind slip.lines line none) in
      let within : kind ≤ 5 = elim (dec_le kind 5) [
        | yes l ↦ l
        | no f ↦ absurd (omega (arith, kind-above kind slip.lines line some (omega arith)))
      ] in
      let (lent, soundness) = passed-page law limit slip x clear in
      record {
        lent = lent;
        soundness = soundness;
        some = omega arith;
        within = within;
        there = λ of-line. elim (dec_lt line slip.lines) [
          | yes l ↦ l
          | no f ↦ absurd (omega (arith, line-missing kind slip.lines line some within of-line (omega arith)))
        ];
        shows = sym (or-given {A = ℕ × Value} (λ k. (k, none)) _ first pass);
      }

  -- a kind shows its equation
  pub shows-by : Watching → (k : ℕ) → kind ≡ k → (v : Value) → v ≡ shown_in m slip (waiting_in m slip x) line k
      → Shows 0 v
  shows-by w k e v is = ap {B = ℕ × Value} (λ (u : Value). (0, u)) (is ∙ rw e) ∙ w.shows

-- a kind that is none of the first four is the fifth
pub last-kind : (kind : ℕ) → 1 ≤ kind → kind ≤ 5 → (kind ≡ 1 → ⊥) → (kind ≡ 2 → ⊥) → (kind ≡ 3 → ⊥) → (kind ≡ 4 → ⊥)
    → kind ≡ 5
last-kind kind some within not-1 not-2 not-3 not-4 = omega arith

-- ---- what is shown of slip and lines
module _ (limit : ℕ) (small : limit ≤ largest_limit) (slip : Slip) (lines : List Line) (s : SoundLines limit slip lines)
  where
    asked-small : asked slip ≤ largest_limit
    asked-small = omega (arith, asked-within limit slip lines s)

    pub waiting-sound : Each (SoundLine largest_limit) lines
    waiting-sound =
        each_same (SoundLine (asked slip)) (SoundLine largest_limit) lines (λ l. line-wider asked-small) s.each

    pub waiting-fits : values lines < 2 ^ 63
    waiting-fits = omega (arith, s.value, factorial-fits (asked slip) asked-small)

    pub waiting-carried : carried (sum signed_character lines) ≡ sum signed_character lines
    waiting-carried = carried-is (sum signed_character lines)
        (omega (arith, lines-bounded largest_limit lines waiting-sound, waiting-fits))

-- ---- what is shown of a page's word
module _ (limit : ℕ) (small : limit ≤ largest_limit) (x : ℕ) (s : SoundLine limit (line_of x)) where
  pub alone-fits : 0 + line_value (line_of x) < 2 ^ 63
  alone-fits =
      omega (arith, word_value x, factorial-fits (line_degree (line_of x)) (omega (arith, s.within)))

  pub alone-carried : carried (pos 0 +ℤ signed_character (line_of x)) ≡ signed_character (line_of x)
  alone-carried =
      rw (+ℤ_idl (signed_character (line_of x)))
      (carried-is (signed_character (line_of x)) (omega (arith, line-bounded s, alone-fits)))

  -- the character degree, as the call answers it
  module _ (r : Result ℤ Refusal) (e : number_told r ≡ shape_character_degree limit (line_of x).shape) where
    abbrev by : ℤ
    by = character_degree (shape_of (line_of x).shape)

    told : number_told r ≡ number_answer 0 by
    unfolding shape_character_degree
    told =
        let none : first_of (shape_checks limit (line_of x).shape) ≡ 0 =
        shape-passes (record { good = good-shape (line_of x).shape s.shape; small = s.within }) in
        e ∙ or-given (λ k. number_answer k (pos 0)) _ _ none

    pub degree-given : IsOk r
    degree-given = go r told
      where
        go : (r : Result ℤ Refusal) → number_told r ≡ number_answer 0 by → IsOk r
        go (Ok d) is = refl
        go (Err d) is = absurd (refuses d (ap (λ (k : NumberAnswer). k.refused) is))

    module _ (exactly : limit ≤ ratio_limit) (d : ℤ) (is : r ≡ Ok d) where
      exact : Exact (line_of x)
      exact = line-exact s (unit-weight x) (omega (arith, s.within))

      degree-carried : carried d ≡ by
      degree-carried =
          let number : d ≡ by = ap (λ (k : NumberAnswer). k.number) (sym (ap number_told is) ∙ told) in
          ap carried number ∙ carried-is by (omega (arith, exact.degree-fits))

      pub ratio-fits : (nat_abs (carried (pos 0 +ℤ signed_character (line_of x))) ≤ 2 ^ 53)
          × (nat_abs (carried d) ≤ 2 ^ 53)
      ratio-fits = rw (alone-carried, degree-carried) (exact.character-fits, exact.degree-fits)

      pub ratio-is : div binary64 (of_int binary64 (carried (pos 0 +ℤ signed_character (line_of x))))
          (of_int binary64 (carried d)) ≡ ratio (line_of x)
      unfolding ratio
      ratio-is = rw (alone-carried, degree-carried)
