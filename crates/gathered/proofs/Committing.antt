-- A commit in the gathered mode: each refusal is that of the first check that applies, and what is written is what is
-- promised.
use Rattle.std.specs.Prelude.{◌∷◌, ◌++◌, ◌+◌, ◌^◌, ◌+ℤ◌, Option, None, Some, unwrap_or, is_some}
use Rattle.std.specs.declared.result.Result.TheVariants.{Ok, Err}
use Rattle.words.specs.declared.refusal.Refusal.{Refusal}
use mathlib.Core.Path.{◌≡◌, refl, sym, ◌∙◌, ap, ap₂}
use mathlib.Core.Bool.{false≢true}
use mathlib.Core.List.{append_assoc}
use Prim.Native.Nat.{◌≤◌, ◌<◌}
use native.Mathlib.Omega.{arith}
use borrow.Author.Tests.{le-leb, lt-leb, eqb-false}
use lib.Seq.{length-take-le, get_or-take}
use Rattle.theory.specs.Basics.{Bool, true, false, cond, List, [], map, length, get_or, take, ℕ}
use Rattle.theory.specs.Basics.{ℤ, pos, nat_abs, ◌<?◌, every, sum, Each}
use Rattle.theory.proofs.Basics.AtPlace.{each_at}
use Rattle.theory.proofs.Basics.Laws.{both, each_same}
use Rattle.theory.proofs.Basics.Keep.{every-each}
use Rattle.theory.specs.Partition.{times}
use Rattle.theory.specs.ClassWord.{class_of}
use Rattle.theory.specs.Bounds.{factorial, S}
use Rattle.theory.proofs.Bounds.Laws.{S-rises, factorial-rises}
use Rattle.theory.specs.Limits.{degree_limit, page_limit}
use Rattle.theory.specs.Refusals.{Check, first_of, no-8, no_9, no-10, no-19}
use Rattle.theory.proofs.Refusals.Laws.{none-applies, first-refuses, first_passes, or-refused}
use Rattle.words.specs.Answers.{Outcome, number_of}
use Rattle.words.proofs.Told.{refuses}
use Rattle.pages.specs.Line.{Line}
use Rattle.pages.specs.Line.Hooks.{Has}
use Rattle.pages.specs.Line.Weights.{weight_of}
use Rattle.pages.specs.declared.Slip.{Slip}
use Rattle.pages.specs.Page.{line_of, word_of, line_at, slip_of}
use Rattle.pages.specs.Mode.{weighted, unit, gathered_mode, waiting_in}
use Rattle.pages.specs.Gathering.{lasting, distinct}
use Rattle.pages.specs.Lawful.Checks.{numbered-page, passed-page}
use Rattle.pages.specs.Lawful.Gathered.{as_long, length-alongside, alongside-at, gathered-lawful}
use Rattle.pages.specs.Sound.{line_value, page_checks_in}
use Rattle.pages.specs.Sound.Laws.{SoundLine, SoundIn, line-wider, asked, values}
use Rattle.pages.specs.Sound.Bounds.{weight-counted, asked-within}
use Rattle.pages.proofs.Signed.{carried, carried-is}
use Rattle.sessions.specs.Opening.{Handed, handed}
use Rattle.sessions.specs.Step.{settled_hooks, waiting_hooks, next_lines_in, next_slip_in, commit_checks_in, commit_in}
use Rattle.sessions.proofs.Step.Gathered.{unlike-waiting}
use Rattle.sessions.proofs.Step.Named.{Named, settled-room}
use Rattle.gathered.specs.declared.commits.Struck.{Struck}
use Rattle.gathered.specs.Private.Joining.{Small, next_of, Joinable, joined_onto}
use Rattle.gathered.specs.Private.Striking.{struck_checks, Hooked, Strikes}
use Rattle.gathered.proofs.LineSizes.{value-within, small-beside}
use Rattle.gathered.proofs.HookWeights.{different-waiting, waiting-sizes, lasting-waiting}

module _ (slip : Slip) (page : List ℕ) (column : List ℤ) (line cycle : ℕ) (strip : List ℕ) where
  abbrev lent : List ℕ × List ℤ
  lent = (page, column)

  abbrev lines : List Line
  lines = waiting_in gathered_mode slip lent

  abbrev next : List Line
  next = next_lines_in gathered_mode lines line cycle

  abbrev promised : Handed × (List ℕ × List ℤ)
  promised = commit_in gathered_mode degree_limit slip lent line cycle strip

  -- ---- the checks
  abbrev judge : List Check
  judge = page_checks_in gathered_mode degree_limit slip lent

  abbrev of-line : Line → List Check
  of-line y = struck_checks cycle y strip ++ no-10 next page ∷ []

  abbrev all : List Check
  all = commit_checks_in gathered_mode degree_limit slip lent line cycle strip

  grouped : first_of all ≡ first_of (judge ++ no-8 slip.lines line ∷ of-line (line_at lines line))
  grouped = ap first_of (append_assoc judge
      (no-8 slip.lines line ∷ no_9 (class_of (line_at lines line).class) cycle ∷ [])
      (no-19 (map word_of (waiting_hooks cycle (unit (line_at lines line)))) strip ∷ no-10 next page ∷ []))

  refused-with : (k : ℕ) → first_of all ≡ k → (k ≡ 0 → ⊥) → Outcome promised (handed k slip) lent
  unfolding commit_in
  refused-with k e some =
      rw (e, or-refused {A = Handed × (List ℕ × List ℤ)} _ _ k some)
      (record { answers = refl; leaves = refl })

  pub judge-refuses : (k : ℕ) → k ≡ first_of judge → (k ≡ 0 → ⊥) → Outcome promised (handed k slip) lent
  judge-refuses k e some = refused-with k
      (grouped ∙ first-refuses judge (no-8 slip.lines line ∷ of-line (line_at lines line)) (λ z. some (e ∙ z))
      ∙ sym e) some

  module _ (none : first_of judge ≡ 0) where
    judged : first_of all ≡ first_of (no-8 slip.lines line ∷ of-line (line_at lines line))
    judged = grouped ∙ first_passes judge (no-8 slip.lines line ∷ of-line (line_at lines line))
        (numbered-page gathered-lawful degree_limit slip lent) none

    pub no_line : slip.lines ≤ line → Outcome promised (handed 8 slip) lent
    no_line l = refused-with 8 (judged ∙ rw (le-leb slip.lines line l) refl) (λ z. omega arith)

    -- ---- what is sound
    soundness : SoundIn gathered_mode degree_limit slip lent
    soundness = (passed-page gathered-lawful degree_limit slip lent none).1

    lengths : (length page ≤ page_limit) × (length page ≡ length column)
    lengths = as_long page column (passed-page gathered-lawful degree_limit slip lent none).0

    abbrev xs : List ℕ
    xs = take slip.lines page

    abbrev zs : List ℤ
    zs = take slip.lines column

    xs-long : length xs ≡ slip.lines
    xs-long = length-take-le slip.lines page soundness.fit

    same : length xs ≡ length zs
    same = xs-long ∙ sym (length-take-le slip.lines column (omega (arith, soundness.fit, lengths)))

    lines_long : length lines ≡ slip.lines
    lines_long = length-alongside xs zs same ∙ xs-long

    -- what all lines count has room
    all_small : values lines < 2 ^ 58
    unfolding factorial
    all_small = omega (
      arith,
      soundness.lines.value,
      factorial-rises (asked slip) degree_limit (asked-within degree_limit slip lines soundness.lines),
    )

    small-lines : Small 1 zs
    small-lines = small-beside xs zs same
        (each_same (λ l. line_value l ≤ values lines) (λ l. nat_abs l.weight < 2 ^ 58) lines
        (λ l p. omega (arith, all_small, weight-counted l)) (value-within lines))

    module _ (there : line < slip.lines) where
      -- the struck line, as the code reads it
      abbrev weight : ℤ
      weight = get_or column line (pos 0)

      abbrev l : Line
      l = weighted (get_or page line 0) (carried weight)

      weight-carried : carried weight ≡ weight
      weight-carried = carried-is weight
          (omega (arith, small-lines line, ap nat_abs (get_or-take slip.lines column line (pos 0) there)))

      pub on-page : (line < length page) × (line < length column) × (length page ≤ page_limit)
      on-page = (omega (arith, soundness.fit), omega (arith, soundness.fit, lengths.1), lengths.0)

      inside : line < length lines
      inside = omega (arith, lines_long)

      line-is : line_at lines line ≡ l
      line-is =
          alongside-at xs zs line same (omega (arith, xs-long))
          ∙ ap₂ weighted (get_or-take slip.lines page line 0 there)
          (get_or-take slip.lines column line (pos 0) there ∙ sym weight-carried)

      struck-first : first_of all ≡ first_of (of-line l)
      struck-first =
          judged ∙ ap (λ (b : Bool). cond b 8 (first_of (of-line (line_at lines line)))) (lt-leb slip.lines line there)
          ∙ ap (λ (y : Line). first_of (of-line y)) line-is

      at-line : (P : Line → Type 0) → Each P lines → P l
      at-line P each = rw line-is at (each_at P lines (line_of 0) line each inside)

      pub strikable : SoundLine degree_limit l × (line_value l < 2 ^ 58)
      strikable = (
        line-wider (asked-within degree_limit slip lines soundness.lines)
            (at-line (SoundLine (asked slip)) soundness.lines.each),
        omega (arith, all_small, at-line (λ y. line_value y ≤ values lines) (value-within lines)),
      )

      pub not-struck : {e : Refusal} {words : List ℕ} {weights : List ℤ} → Strikes cycle l strip (Err e) words weights
          → Outcome promised (handed (number_of e) slip) lent
      not-struck {e} k = refused-with (number_of e)
          (struck-first ∙ first-refuses (struck_checks cycle l strip) (no-10 next page ∷ [])
          (λ z. refuses e (k.number ∙ z))
          ∙ sym k.number) (refuses e)

      module _ {r : Struck} {words : List ℕ} {weights : List ℤ} (k : Strikes cycle l strip (Ok r) words weights) where
        h : Hooked cycle l r words weights
        h = k.hooked

        passed : first_of (struck_checks cycle l strip) ≡ 0
        passed = sym k.number

        has : Has cycle l
        has = eqb-false (times cycle (class_of l.class)) 0
            (none-applies (struck_checks cycle l strip) refl passed).0

        named : Named degree_limit slip lines line cycle
        named = record { soundness = soundness.lines; there = inside; has = rw line-is has }

        abbrev hook-words : List ℕ
        hook-words = take r.count words

        abbrev hook-weights : List ℤ
        hook-weights = take r.count weights

        pub words_long : length hook-words ≡ r.count
        words_long = length-take-le r.count words (omega (arith, h.few, h.long))

        pub weights-long : length hook-weights ≡ r.count
        weights-long = length-take-le r.count weights (omega (arith, h.few, h.long-weights))

        pub fits-words : r.count ≤ length words
        fits-words = omega (arith, h.few, h.long)

        pub fits-weights : r.count ≤ length weights
        fits-weights = omega (arith, h.few, h.long-weights)

        lasts : lasting l ≡ true
        lasts = at-line (λ y. lasting y ≡ true)
            (every-each lasting lines (both (distinct lines) (every lasting lines) soundness.stands).1)

        pub joinable : Joinable page column line slip.lines hook-words hook-weights
        joinable =
            let s = strikable.0 in
            let b = both (distinct lines) (every lasting lines) soundness.stands in
            record {
              there = there;
              fit = soundness.fit;
              short = lengths.0;
              as_long = lengths.1;
              idle = soundness.idle;
              weighed = words_long ∙ sym weights-long;
              few = omega (arith, words_long, h.few);
              small = small-lines;
              small-weights = small-beside hook-words hook-weights (words_long ∙ sym weights-long)
                  (rw h.lines (each_same _ (λ y. nat_abs y.weight < 2 ^ 58) (waiting_hooks cycle l)
                  (λ y p. omega (arith, p, weight-counted l, strikable.1)) (waiting-sizes cycle l s has)));
              different-lines = b.0;
              lasting-lines = b.1;
              different-hooks = rw h.lines (different-waiting cycle l s has);
              lasting-hooks = rw h.lines (lasting-waiting cycle l s has lasts);
              unlike-struck = rw (h.lines, line-is) (unlike-waiting cycle l s has);
            }

        next-is : next_of page column line slip.lines hook-words hook-weights ≡ next
        unfolding next_lines_in
        next-is = rw (h.lines, line-is)

        struck-passes : first_of all ≡ first_of (no-10 next page ∷ [])
        struck-passes = struck-first ∙ first_passes (struck_checks cycle l strip) (no-10 next page ∷ []) refl passed

        -- ---- room in 64 bits
        sum_is : r.settled ≡ sum weight_of (settled_hooks cycle (line_at lines line))
        sum_is = h.settled ∙ ap (λ (y : Line). sum weight_of (settled_hooks cycle y)) (sym line-is)

        settled-small : nat_abs slip.settled + nat_abs r.settled < 2 ^ 58
        unfolding factorial
        settled-small = omega (
          arith,
          ap nat_abs sum_is,
          settled-room gathered-lawful degree_limit slip lines line cycle named,
          factorial-rises (asked slip) degree_limit (asked-within degree_limit slip lines soundness.lines),
        )

        sum-carried : carried r.settled ≡ r.settled
        sum-carried = carried-is r.settled (omega (arith, settled-small))

        pub slip-fits : (nat_abs slip.settled + nat_abs (carried r.settled) < 2 ^ 63)
            × (nat_abs slip.steps + 1 < 2 ^ 63)
        unfolding S
        slip-fits = (
          rw sum-carried (omega (arith, settled-small)),
          omega (
            arith,
            soundness.lines.span,
            S-rises (asked slip) degree_limit (asked-within degree_limit slip lines soundness.lines),
          ),
        )

        -- ---- what is left
        abbrev joins : Bool → Option ℕ × (List ℕ × List ℤ)
        joins b = cond b (None, lent) (Some (length next), gathered_mode.put next lent)

        module _ {j : Option ℕ} {left : List ℕ × List ℤ}
            (o : Outcome (joined_onto page column line slip.lines hook-words hook-weights) j left) where
          outcome : Outcome (joins (length page <? length next)) j left
          unfolding joined_onto
          outcome = rw next-is at o

          pub full : j ≡ None → Outcome promised (handed 10 slip) left
          full e = go (length page <? length next) refl outcome
            where
              go : (b : Bool) → length page <? length next ≡ b → Outcome (joins b) j left
                  → Outcome promised (handed 10 slip) left
              go true t p = rw p.leaves
                  (refused-with 10 (struck-passes ∙ ap (λ (b : Bool). cond b 10 0) t) (λ f. omega arith))
              go false t p = absurd (false≢true (ap is_some (sym e ∙ p.answers)))

          pub done : {n : ℕ} → j ≡ Some n → (after : Slip)
              → after ≡ slip_of slip.shape slip.class (slip.settled +ℤ carried r.settled) n (slip.steps +ℤ pos 1) slip.mode
              → Outcome promised (handed 0 after) left
          unfolding commit_in next_slip_in
          done {n} e after is = go (length page <? length next) refl outcome
            where
              go : (b : Bool) → length page <? length next ≡ b → Outcome (joins b) j left
                  → Outcome promised (handed 0 after) left
              go true t p = absurd (false≢true (ap is_some (sym p.answers ∙ e)))
              go false t p =
                  let count : n ≡ length next = ap (λ (m : Option ℕ). unwrap_or m 0) (sym e ∙ p.answers) in
                  rw (struck-passes ∙ ap (λ (b : Bool). cond b 10 0) t)
                  (record { answers = ap (handed 0) (is ∙ rw (sum-carried, sum_is, count) refl); leaves = p.leaves })
