-- No lines are lost by joining (document 02, P7). For every shape and class, what lines of it weigh after a commit of
-- the gathered mode is what they weighed before, without the struck line, plus what the hooks bring. A shape and class
-- are named by any line k that has them; what k weighs does not matter.
--   struck, others           the struck line, and the lines without it
--   before, after            the lines that wait before the commit, and after it
--   coefficient-committed    so for every shape and class, the struck line's weight on the other side
--   others-kept              so for every shape and class but the struck line's; struck-gone, of that nothing waits
--   column-joined            so in the column, beside a line that was there before and was not struck
--   column-new               beside a line that is new stands what the hooks bring
use Rattle.std.specs.Prelude.{◌≡◌, ◌<◌, ◌∷◌, ◌++◌, ◌+ℤ◌, ◌-ℤ◌}
use Rattle.std.proofs.Math.Path.{refl, ap}
use Rattle.std.proofs.Common.{sym, ◌∙◌, ap₂, arith, eqb-true}
use Rattle.std.proofs.Math.IntN.{+ℤ_idl, +ℤ_idr, +ℤ_invr, +ℤ-neg_ℤ_cancel}
use Rattle.std.proofs.Math.Seq.{split_at}
use Rattle.theory.specs.Basics.{Bool, true, false, not, List, [], length, get_or, take, drop, ℕ, suc, ℤ, pos}
use Rattle.theory.specs.Basics.{◌=?◌, every, sum, Each}
use Rattle.theory.proofs.Basics.AtPlace.{each_at}
use Rattle.theory.specs.Basics.Integers.{sums}
use Rattle.theory.proofs.Basics.Integers.{swap-back}
use Rattle.theory.proofs.Basics.Laws.{both, each_same, sum-append}
use Rattle.theory.specs.Partition.{degree}
use Rattle.theory.specs.ShapeWord.{shape_of}
use Rattle.theory.specs.Refusals.{first_of}
use Rattle.theory.proofs.Refusals.Laws.{answer-given}
use Rattle.words.specs.Answers.{Outcome}
use Rattle.pages.specs.Line.{Line}
use Rattle.pages.specs.declared.Slip.{Slip}
use Rattle.pages.specs.Page.{line_of, line_at}
use Rattle.pages.specs.Line.Hooks.{Has, HookLine}
use Rattle.pages.specs.Gathering.{alike, lasting, distinct, coefficient}
use Rattle.pages.specs.Gathering.Laws.{weight_for, coefficient-sum, coefficient-gathered}
use Rattle.pages.specs.Gathering.Different.{Unlike, one_more, different-none, unlike-at, coefficient-alike}
use Rattle.pages.specs.Gathering.Different.{coefficient-none}
use Rattle.pages.specs.Gathering.Agree.{own-coefficient, coefficient-at}
use Rattle.pages.specs.Gathering.Modes.{column-coefficient}
use Rattle.pages.specs.Mode.{gathered_mode, waiting_in}
use Rattle.pages.specs.Sound.{page_checks_in}
use Rattle.pages.specs.Sound.Laws.{SoundLine}
use Rattle.pages.specs.Lawful.Checks.{page-passes}
use Rattle.pages.specs.Lawful.Gathered.{gathered-lawful}
use Rattle.sessions.specs.Opening.{Handed, handed}
use Rattle.sessions.specs.Step.{waiting_hooks, next_lines_in, commit_checks_in, finished_in, commit_in}
use Rattle.sessions.proofs.Step.Strike.{cycle-positive, each-waiting}
use Rattle.sessions.proofs.Step.Named.{Named, chosen-sound}
use Rattle.sessions.proofs.Step.Laws.{Accepted, accepted, next-waits, next-passes}

-- ---- lines
module _ (k : Line) (lines : List Line) (i cycle : ℕ) (there : i < length lines) where
  abbrev struck : Line
  struck = line_at lines i

  abbrev others : List Line
  others = take i lines ++ drop (suc i) lines

  swapped : (a b c : ℤ) → a +ℤ b +ℤ c ≡ a +ℤ (c +ℤ b)
  swapped a b c = simp sums

  without-struck : coefficient k others +ℤ coefficient k (struck ∷ []) ≡ coefficient k lines
  without-struck =
      let f : Line → ℤ = weight_for k in
      let first : ℤ = sum f (take i lines) in
      let last : ℤ = sum f (drop (suc i) lines) in
      let apart : sum f others ≡ first +ℤ last = sum-append f (take i lines) (drop (suc i) lines) in
      let whole : sum f lines ≡ first +ℤ (f struck +ℤ last) =
      ap (sum f) (split_at lines i (line_of 0) there) ∙ sum-append f (take i lines) (struck ∷ drop (suc i) lines) in
      rw (coefficient-sum k others, coefficient-sum k (struck ∷ []), coefficient-sum k lines, apart, whole)
      (ap (λ z. first +ℤ last +ℤ z) (+ℤ_idr (f struck)) ∙ swapped first last (f struck))

  pub coefficient-next : coefficient k (next_lines_in gathered_mode lines i cycle) +ℤ coefficient k (struck ∷ [])
      ≡ coefficient k lines +ℤ coefficient k (waiting_hooks cycle struck)
  unfolding next_lines_in
  coefficient-next =
      let new : ℤ = coefficient k (waiting_hooks cycle struck) in
      ap (λ z. z +ℤ coefficient k (struck ∷ [])) (coefficient-gathered k others (waiting_hooks cycle struck))
      ∙ swap-back (coefficient k others) new (coefficient k (struck ∷ []))
      ∙ ap (λ z. z +ℤ new) without-struck

-- no hook line that waits is equal to the line that is struck: its degree is lower
pub unlike-waiting : {n : ℕ} (cycle : ℕ) (l : Line) → SoundLine n l → Has cycle l
    → Each (Unlike l) (waiting_hooks cycle l)
unlike-waiting {n} cycle l s has =
    each_same _ (Unlike l) (waiting_hooks cycle l) (λ h p. go h p.0 (alike l h) refl) (each-waiting n cycle l s has)
  where
    go : (h : Line) → HookLine cycle l h → (b : Bool) → alike l h ≡ b → not b ≡ true
    go h p true e =
        let shapes = eqb-true l.shape h.shape (both (l.shape =? h.shape) (l.class =? h.class) e).0 in
        absurd (omega (
          arith,
          p.lower,
          cycle-positive n cycle l s has,
          ap (λ (w : ℕ). degree (shape_of w)) shapes,
        ))
    go h p false e = refl

-- ---- page and column
module _ (limit : ℕ) (slip : Slip) (x : gathered_mode.Lent) (line cycle : ℕ) (strip : List ℕ) (a : Handed)
    (y : gathered_mode.Lent) (promised : Outcome (commit_in gathered_mode limit slip x line cycle strip) a y)
    (none : a.refused ≡ 0) where
  abbrev before : List Line
  before = waiting_in gathered_mode slip x

  abbrev after : List Line
  after = waiting_in gathered_mode a.slip y

  -- no check refused, and this is the answer
  given : (first_of (commit_checks_in gathered_mode limit slip x line cycle strip) ≡ 0)
      × (commit_in gathered_mode limit slip x line cycle strip ≡ finished_in gathered_mode 0 slip x line cycle)
  unfolding commit_in
  given =
      answer-given (λ (z : Handed × gathered_mode.Lent). z.0.refused) (λ k. (handed k slip, x)) _ (λ k. refl) refl _ _
      refl (sym (ap (λ (h : Handed). h.refused) promised.answers) ∙ none)

  named : Accepted gathered_mode limit slip x line cycle
  named = accepted gathered-lawful limit slip x line cycle strip given.0

  pub coefficient-committed : (k : Line)
      → coefficient k after +ℤ coefficient k (line_at before line ∷ [])
      ≡ coefficient k before +ℤ coefficient k (waiting_hooks cycle (line_at before line))
  coefficient-committed k =
      rw (promised.answers, promised.leaves, given.1, next-waits gathered-lawful limit slip x line cycle named)
      (coefficient-next k before line cycle named.named.named.there)

  -- of any shape and class but the struck line's
  pub others-kept : (k : Line) → Unlike k (line_at before line)
      → coefficient k after ≡ coefficient k before +ℤ coefficient k (waiting_hooks cycle (line_at before line))
  others-kept k other =
      let none = coefficient-none k (line_at before line ∷ []) (other, tt) in
      sym (+ℤ_idr (coefficient k after)) ∙ ap (λ z. coefficient k after +ℤ z) (sym none) ∙ coefficient-committed k

  -- of the struck line's own nothing waits any more: no other line was equal to it, and its hooks are of lower degree
  differ : distinct before ≡ true
  differ = (both (distinct before) (every lasting before) named.named.soundness.stands).0

  pub struck-gone : coefficient (line_at before line) after ≡ pos 0
  struck-gone =
      let l : Line = line_at before line in
      let n : Named limit slip before line cycle = named.named.named in
      let own = own-coefficient l [] (one_more l [] tt different-none) in
      let was = coefficient-at before line differ n.there in
      let brings = coefficient-none l (waiting_hooks cycle l)
      (unlike-waiting cycle l (chosen-sound gathered-lawful limit slip before line cycle n) n.has) in
      let sums : coefficient l after +ℤ l.weight ≡ l.weight =
      ap (λ z. coefficient l after +ℤ z) (sym own) ∙ coefficient-committed l ∙ ap₂ ◌+ℤ◌ was brings
      ∙ +ℤ_idr l.weight in
      sym (+ℤ-neg_ℤ_cancel (coefficient l after) l.weight) ∙ ap (λ z. z -ℤ l.weight) sums ∙ +ℤ_invr l.weight

  -- every call takes what it leaves, so that a line's coefficient stands beside it in the column
  pub committed-passes : first_of (page_checks_in gathered_mode limit a.slip y) ≡ 0
  committed-passes =
      rw (promised.answers, promised.leaves, given.1) (next-passes gathered-lawful limit slip x line cycle named)

  before-passes : first_of (page_checks_in gathered_mode limit slip x) ≡ 0
  before-passes = page-passes gathered-lawful limit slip x named.named.lent named.named.soundness

  stands-beside : (i : ℕ) → i < a.slip.lines → coefficient (line_at after i) after ≡ get_or y.1 i (pos 0)
  stands-beside = column-coefficient limit a.slip y.0 y.1 committed-passes

  pub column-committed : (i : ℕ) → i < a.slip.lines
      → get_or y.1 i (pos 0) +ℤ coefficient (line_at after i) (line_at before line ∷ [])
      ≡ coefficient (line_at after i) before +ℤ coefficient (line_at after i) (waiting_hooks cycle (line_at before line))
  column-committed i there =
      ap (λ z. z +ℤ coefficient (line_at after i) (line_at before line ∷ [])) (sym (stands-beside i there))
      ∙ coefficient-committed (line_at after i)

  -- a line that was there before, at j, and was not struck
  pub column-joined : (i j : ℕ) → i < a.slip.lines → j < slip.lines → (j ≡ line → ⊥)
      → alike (line_at after i) (line_at before j) ≡ true
      → get_or y.1 i (pos 0)
      ≡ get_or x.1 j (pos 0) +ℤ coefficient (line_at before j) (waiting_hooks cycle (line_at before line))
  column-joined i j there was other same =
      let l : Line = line_at before j in
      let many = gathered-lawful.waits-length slip.lines x named.named.lent named.named.soundness.fit in
      let unlike = unlike-at before j line differ (omega (arith, many)) named.named.named.there other in
      sym (stands-beside i there) ∙ coefficient-alike (line_at after i) l same after ∙ others-kept l unlike
      ∙ ap (λ z. z +ℤ coefficient l (waiting_hooks cycle (line_at before line)))
      (column-coefficient limit slip x.0 x.1 before-passes j was)

  -- a line that is new: it is unlike all that waited
  pub column-new : (i : ℕ) → i < a.slip.lines → Each (Unlike (line_at after i)) before
      → get_or y.1 i (pos 0) ≡ coefficient (line_at after i) (waiting_hooks cycle (line_at before line))
  column-new i there new =
      let k : Line = line_at after i in
      let brings : ℤ = coefficient k (waiting_hooks cycle (line_at before line)) in
      sym (stands-beside i there)
      ∙ others-kept k (each_at (Unlike k) before (line_of 0) line new named.named.named.there)
      ∙ ap (λ z. z +ℤ brings) (coefficient-none k before new) ∙ +ℤ_idl brings
