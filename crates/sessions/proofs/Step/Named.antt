-- A step that names one of the lines of a sound slip and a cycle of its class, however the lines are written down: the
-- lines that come of it are sound again, and worth the same.
--   Named ..            the line numbered i is there, and its class has the cycle
use Rattle.std.specs.Prelude.{◌≡◌, refl, ◌≤◌, ◌<◌, ◌∷◌, ◌++◌, ◌+◌, ◌-◌, ◌+ℤ◌}
use Rattle.std.proofs.Common.{sym, ◌∙◌, length-append}
use Rattle.std.proofs.Math.Path.{ap}
use Rattle.std.proofs.lemmas.Bool.{false≢true}
use native.Mathlib.Omega.{arith}
use Rattle.std.proofs.Math.Seq.{split_at}
use Rattle.std.specs.Int.Signed.{non_neg}
use Rattle.theory.specs.Basics.{true, List, length, map, take, drop, ℕ, suc, ℤ, pos, negsuc}
use Rattle.theory.specs.Basics.{nat_abs, total, sum, Each}
use Rattle.theory.specs.Basics.Integers.{sums}
use Rattle.theory.proofs.Basics.Laws.{sum-append}
use Rattle.theory.proofs.Basics.Keep.{each-parts, each-others, total-append}
use Rattle.theory.specs.Bounds.{factorial}
use Rattle.theory.proofs.Bounds.Laws.{abs-add}
use Rattle.pages.specs.Line.{Line, signed_character}
use Rattle.pages.specs.Line.Hooks.{Has}
use Rattle.pages.specs.Line.Weights.{weight_of}
use Rattle.pages.specs.declared.Slip.{Slip}
use Rattle.pages.specs.Page.{line_of, line_at, worth}
use Rattle.pages.specs.Sound.{line_value, line_span}
use Rattle.pages.specs.Sound.Laws.{SoundLine, asked, values, spans, SoundLines}
use Rattle.pages.specs.Mode.{Mode}
use Rattle.pages.specs.Lawful.{Lawful}
use Rattle.sessions.specs.Step.{settled_hooks, waiting_hooks, next_lines_in, next_slip_in, next_lines}
use Rattle.sessions.proofs.Step.Strike.{waiting-sound, strike-worth, strike-value, strike-span}

pub record Named (limit : ℕ) (slip : Slip) (lines : List Line) (i cycle : ℕ) : Type 0 where
  pub soundness : SoundLines limit slip lines
  pub there : i < length lines
  pub has : Has cycle (line_at lines i)

-- in the plain mode a step leaves as many lines as stayed and as came
pub next-length : (lines : List Line) (i cycle : ℕ) → i < length lines
    → length (next_lines lines i cycle) ≡ length lines - 1 + length (waiting_hooks cycle (line_at lines i))
unfolding next_lines_in
next-length lines i cycle there =
    let split = split_at lines i (line_of 0) there in
    simp length-append
    (omega (arith, ap length split, length-append (take i lines) (line_at lines i ∷ drop (suc i) lines)))

one_more : (z : ℤ) → non_neg z ≡ true → (non_neg (z +ℤ pos 1) ≡ true) × (nat_abs (z +ℤ pos 1) ≡ nat_abs z + 1)
one_more (pos n) e = (refl, refl)
one_more (negsuc n) e = absurd (false≢true e)

moved : (z g b d l : ℤ) → z +ℤ g +ℤ (b +ℤ d +ℤ l) ≡ z +ℤ (b +ℤ (g +ℤ l +ℤ d))
moved z g b d l = simp sums

module _ {m : Mode} (law : Lawful m) (limit : ℕ) (slip : Slip) (lines : List Line) (i cycle : ℕ)
    (n : Named limit slip lines i cycle) where
  -- ---- the line and its neighbours
  abbrev chosen : Line
  chosen = line_at lines i

  abbrev before : List Line
  before = take i lines

  abbrev behind : List Line
  behind = drop (suc i) lines

  abbrev hooks : List Line
  hooks = waiting_hooks cycle chosen

  abbrev next : List Line
  next = next_lines_in m lines i cycle

  lines_split : lines ≡ before ++ chosen ∷ behind
  lines_split = split_at lines i (line_of 0) n.there

  pub chosen-sound : SoundLine (asked slip) chosen
  chosen-sound =
      (each-parts (SoundLine (asked slip)) before (chosen ∷ behind) (rw lines_split at n.soundness.each)).1.0

  -- ---- what they count
  over-split : (f : Line → ℕ) → total (map f lines) ≡ total (map f before) + (f chosen + total (map f behind))
  over-split f = ap (λ (ls : List Line). total (map f ls)) lines_split ∙ total-append f before (chosen ∷ behind)

  -- the weights of its hooks can be added to settled, in whatever order
  pub settled-room : nat_abs slip.settled + nat_abs (sum weight_of (settled_hooks cycle chosen)) ≤ factorial (asked slip)
  settled-room = omega (
    arith,
    strike-value (asked slip) cycle chosen chosen-sound n.has,
    over-split line_value,
    n.soundness.value,
  )

  -- ---- the lines that come of it
  pub next-written : Each law.Written lines → Each law.Written hooks → Each law.Written next
  unfolding next_lines_in
  next-written all new = law.written-join (before ++ behind) hooks (each-others law.Written lines i all) new

  pub next-stands : m.stands lines ≡ true → m.stands next ≡ true
  unfolding next_lines_in
  next-stands stands = law.stands-join (before ++ behind) hooks (law.stands-without i lines stands)

  next-each : Each (SoundLine (asked slip)) next
  unfolding next_lines_in
  next-each =
      law.sound-join (asked slip) (before ++ behind) hooks
      (each-others (SoundLine (asked slip)) lines i n.soundness.each)
      (waiting-sound (asked slip) cycle chosen chosen-sound n.has)

  next-values : values next ≤ values before + values behind + values hooks
  unfolding next_lines_in
  next-values = omega (arith, law.values_join (before ++ behind) hooks, total-append line_value before behind)

  next-spans : spans next ≤ spans before + spans behind + spans hooks
  unfolding next_lines_in
  next-spans = omega (arith, law.spans-join (before ++ behind) hooks, total-append line_span before behind)

  pub next-sound : SoundLines limit (next_slip_in m slip lines i cycle) next
  unfolding next_slip_in
  next-sound =
      let s = n.soundness in
      let struck = strike-value (asked slip) cycle chosen chosen-sound n.has in
      let lasts = strike-span (asked slip) cycle chosen chosen-sound n.has in
      let steps = one_more slip.steps s.forward in
      record {
        words = s.words;
        each = next-each;
        value = omega (
          arith,
          abs-add slip.settled (sum weight_of (settled_hooks cycle chosen)),
          over-split line_value,
          next-values,
          s.value,
        );
        forward = steps.0;
        span = omega (arith, over-split line_span, next-spans, s.span);
      }

  pub next-worth : worth (next_slip_in m slip lines i cycle) next ≡ worth slip lines
  unfolding next_slip_in next_lines_in worth
  next-worth =
      let gone : ℤ = sum weight_of (settled_hooks cycle chosen) in
      let first : ℤ = sum signed_character before in
      let last : ℤ = sum signed_character behind in
      let new : ℤ = sum signed_character hooks in
      let joined : sum signed_character (m.join (before ++ behind) hooks) ≡ first +ℤ last +ℤ new =
      law.worth-join (before ++ behind) hooks
      ∙ ap (λ z. z +ℤ new) (sum-append signed_character before behind) in
      let struck = strike-worth (asked slip) cycle chosen chosen-sound n.has in
      let was : sum signed_character lines ≡ first +ℤ (gone +ℤ new +ℤ last) =
      ap (sum signed_character) lines_split ∙ sum-append signed_character before (chosen ∷ behind)
      ∙ ap (λ z. first +ℤ (z +ℤ last)) struck in
      ap (λ z. slip.settled +ℤ gone +ℤ z) joined
      ∙ moved slip.settled gone first last new
      ∙ ap (λ z. slip.settled +ℤ z) (sym was)
