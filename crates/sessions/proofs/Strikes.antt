-- What comes of a line and a cycle that are named: the new lines have room on a strip, what is settled and counted has
-- room in 64 bits, and strip and page are what is promised.
--   Hooked .. h strip   what the strike h tells that left this strip, if it does not refuse
use Rattle.std.specs.Prelude.{◌∷◌, ◌++◌, ◌+◌, ◌-◌, ◌^◌, ◌+ℤ◌}
use mathlib.Core.Path.{◌≡◌, refl, sym, ◌∙◌, ap, ap₂}
use mathlib.Core.List.{map-append}
use Prim.Native.Nat.{◌≤◌, ◌<◌}
use native.Mathlib.Nat.{zero-add}
use native.Mathlib.Omega.{arith}
use borrow.Author.Tests.{lt-ltb, le-ltb, ltb-false}
use lib.ListN.{length-append, length-map}
use lib.Seq.{take_at, length-take-le, sets, sets-eq}
use Rattle.theory.specs.Basics.{Bool, not, List, [], map, length, get_or, take, drop, ℕ, suc}
use Rattle.theory.specs.Basics.{ℤ, pos, nat_abs, ◌<?◌, sum, same}
use Rattle.theory.specs.Partition.{without}
use Rattle.theory.specs.ClassWord.{class_word, class_of}
use Rattle.theory.specs.Bounds.{S}
use Rattle.theory.specs.Bounds.Laws.{largest_limit}
use Rattle.theory.proofs.Bounds.Laws.{S-rises}
use Rattle.theory.specs.Refusals.{Check, first_of, no-10, no-18, no-19}
use Rattle.theory.proofs.Refusals.Laws.{none-applies, first-refuses, first_passes, or-refused, answer-number}
use Rattle.theory.proofs.Refusals.Laws.{answer-given}
use Rattle.std.specs.declared.result.Result.{Result}
use Rattle.std.specs.declared.result.Result.TheVariants.{Ok}
use Rattle.words.specs.declared.refusal.Refusal.{Refusal}
use Rattle.words.specs.Answers.{CountAnswer, WordAnswer}
use Rattle.words.specs.Answers.{Outcome, count_answer, at_front}
use Rattle.words.proofs.Factorials.{factorial-fits}
use Rattle.pages.specs.Line.{Line}
use Rattle.pages.specs.Line.Weights.{weight_of}
use Rattle.pages.specs.declared.Slip.{Slip}
use Rattle.pages.specs.Page.{line_of, word_of, line_at, padded, slip_of}
use Rattle.pages.specs.Page.Words.{map-take, map-drop, front_read}
use Rattle.pages.specs.Mode.{plain_mode, waiting}
use Rattle.pages.specs.Lawful.Plain.{plain-lawful}
use Rattle.pages.specs.Sound.Laws.{line-wider, asked, sound-zeros}
use Rattle.pages.specs.Sound.Bounds.{asked-within}
use Rattle.pages.proofs.Signed.{carried, carried-is}
use Rattle.pages.proofs.SoundPages.{line_word, sound-line-at}
use Rattle.sessions.specs.declared.lines.HookLines.{HookLines}
use Rattle.sessions.specs.Opening.{handed, Handed}
use Rattle.sessions.specs.Step.{settled_hooks, waiting_hooks, next_lines_in, next_slip_in, preview_in, commit_in}
use Rattle.sessions.specs.Step.{next_lines, next_slip, named_checks, new_lines, preview, commit_checks, commit}
use Rattle.sessions.proofs.Step.Named.{settled-room, next-length}
use Rattle.sessions.proofs.Step.Laws.{NamedOn, named-on}
use Rattle.sessions.proofs.Step.Previews.{few-new}
use Rattle.sessions.specs.Private.ClassLeft.{class_left_of}
use Rattle.sessions.specs.Private.Pages.{others, Exchanges, exchanged}
use Rattle.sessions.specs.Private.Striking.{Strikes, stripped}
use Rattle.sessions.specs.Private.Struck.{Struck, struck, struck_told, struck_onto}
use Rattle.sessions.proofs.Told.{Beside, given-before}
use Rattle.sessions.proofs.Steps.{number}

module _ (limit : ℕ) (small : limit ≤ largest_limit) (slip : Slip) (page : List ℕ) (line cycle : ℕ) where
  abbrev lines : List Line
  lines = waiting slip page

  abbrev next : List Line
  next = next_lines lines line cycle

  -- the named line, and as the page's word is read
  abbrev chosen : Line
  chosen = line_at lines line

  abbrev on-page : Line
  on-page = line_of (get_or page line 0)

  abbrev new : List ℕ
  new = new_lines slip page line cycle

  abbrev settled : ℤ
  settled = sum weight_of (settled_hooks cycle chosen)

  abbrev named : List Check
  named = named_checks limit slip page line cycle

  -- ---- a strike
  pub strike-refused : (lent : List ℕ) (r : WordAnswer) → r ≡ class_left_of limit slip page line cycle
      → (r.refused ≡ 0 → ⊥) → Outcome (struck_onto limit slip page line cycle lent) (struck r.refused 0 (pos 0)) lent
  unfolding struck_onto
  strike-refused lent r e some =
      rw (
        ← number limit slip page line cycle r e,
        or-refused {A = Struck × List ℕ} (λ k. (struck k 0 (pos 0), lent)) _ r.refused some,
      )
      (record { answers = refl; leaves = refl })

  module _ (n : NamedOn plain_mode limit slip page line cycle) where
    word : chosen ≡ on-page
    word = line_word slip page line n.there

    pub strikes : (class : ℕ) (strip : List ℕ) → class ≡ class_word (without cycle (class_of on-page.class))
        → length strip ≡ limit → Strikes largest_limit cycle on-page class strip
    strikes class strip e long = record {
      soundness = line-wider small (sound-line-at limit slip page n.soundness line n.there);
      has = rw word at n.named.has;
      class-left = e;
      room = omega (
        arith,
        few-new plain-lawful limit slip page line cycle n,
        length-map (waiting_hooks cycle chosen) word_of,
        ap (λ (l : Line). length (waiting_hooks cycle l)) word,
      );
    }

    -- ---- room
    settled-small : nat_abs slip.settled + nat_abs settled < 2 ^ 63
    settled-small =
        let n! = factorial-fits (asked slip) (omega (arith, asked-within limit slip lines n.soundness.lines)) in
        omega (arith, settled-room plain-lawful limit slip lines line cycle n.named)

    settled-carried : carried settled ≡ settled
    settled-carried = carried-is settled (omega (arith, settled-small))

    pub steps-fit : nat_abs slip.steps + 1 < 2 ^ 63
    unfolding S
    steps-fit = omega (
      arith,
      n.soundness.lines.span,
      S-rises (asked slip) largest_limit (omega (arith, asked-within limit slip lines n.soundness.lines)),
    )

    pub struck-onto : first_of named ≡ 0 → (lent : List ℕ) (h : HookLines) (strip : List ℕ)
        → Outcome (stripped cycle on-page lent) h strip
        → Outcome (struck_onto limit slip page line cycle lent) (struck 0 h.count h.settled) strip
    unfolding struck_onto stripped
    struck-onto none lent h strip o =
        let long = length-map (waiting_hooks cycle chosen) word_of in
        let back : on-page ≡ chosen = sym word in
        let count : h.count ≡ length new = ap (λ (x : HookLines). x.count) o.answers ∙ rw back (sym long) in
        let its : h.settled ≡ settled = ap (λ (x : HookLines). x.settled) o.answers ∙ rw back refl in
        rw none
        (record {
          answers = rw (count, its) refl;
          leaves = o.leaves ∙ rw (back, long) refl;
        })

  -- ---- what it tells
  pub record Hooked (h : Struck) (strip : List ℕ) : Type 0 where
    pub none : first_of named ≡ 0
    pub on : NamedOn plain_mode limit slip page line cycle
    pub count : h.count ≡ length new
    pub sum-settled : h.settled ≡ settled
    pub front : take h.count strip ≡ new
    pub inside : h.count ≤ length strip
    pub few : h.count ≤ limit

  module _ (lent : List ℕ) {h : Struck} {strip : List ℕ} (o : Outcome (struck_onto limit slip page line cycle lent) h strip)
    where
      whole : (h, strip) ≡ struck_onto limit slip page line cycle lent
      whole = ap₂ (λ (a : Struck) (b : List ℕ). (a, b)) o.answers o.leaves

      strike-number : h.refused ≡ first_of named
      unfolding struck_onto
      strike-number =
          answer-number (λ (x : Struck × List ℕ). x.0.refused) (λ k. (struck k 0 (pos 0), lent)) _ (λ k. refl) refl
          (first_of named) (h, strip) whole

      pub hooked : h.refused ≡ 0 → Hooked h strip
      unfolding struck_onto
      hooked z =
          let (none, given) =
          answer-given (λ (x : Struck × List ℕ). x.0.refused) (λ k. (struck k 0 (pos 0), lent)) _ (λ k. refl) refl
          (first_of named) (h, strip) whole z in
          let on = named-on plain-lawful limit slip page line cycle none in
          let count : h.count ≡ length new = ap (λ (x : Struck × List ℕ). x.0.count) given in
          let left : strip ≡ at_front new lent = ap (λ (x : Struck × List ℕ). x.1) given in
          record {
            none = none;
            on = on;
            count = count;
            sum-settled = ap (λ (x : Struck × List ℕ). x.0.settled) given;
            front = rw left (take_at new _ h.count (sym count));
            inside = rw (left, length-append) (omega arith);
            few = omega (arith, few-new plain-lawful limit slip page line cycle on);
          }

      -- a preview and a commit are refused as the line and the cycle are
      module _ (some : h.refused ≡ 0 → ⊥) (more : List Check) where
        refuses : first_of (named ++ more) ≡ h.refused
        refuses = first-refuses named more (λ z. some (strike-number ∙ z)) ∙ sym strike-number

  -- what was struck, where the slip has been put beside a refusal
  pub hooked-beside : (lent : List ℕ) (r : Result HookLines Refusal) {strip : List ℕ}
      → Outcome (struck_onto limit slip page line cycle lent) (struck_told r) strip → (h : HookLines)
      → Beside slip r (Ok h) → Hooked (struck_told (Ok h)) strip
  hooked-beside lent r o h same =
      let is : r ≡ Ok h = given-before slip r same in
      hooked lent (rw is at o) refl

  -- ---- a preview
  preview-refused : (lent : List ℕ) (k : ℕ) → first_of (named ++ no-18 new lent ∷ []) ≡ k → (k ≡ 0 → ⊥)
      → Outcome (preview limit slip page line cycle lent) (count_answer k 0) lent
  unfolding preview_in
  preview-refused lent k e some =
      rw (e, or-refused {A = CountAnswer × List ℕ} _ _ k some)
      (record { answers = refl; leaves = refl })

  pub not-previewed : (own : List ℕ) {h : Struck} {strip : List ℕ}
      → Outcome (struck_onto limit slip page line cycle own) h strip → (h.refused ≡ 0 → ⊥) → (lent : List ℕ)
      → Outcome (preview limit slip page line cycle lent) (count_answer h.refused 0) lent
  not-previewed own o some lent = preview-refused lent _ (refuses own o some (no-18 new lent ∷ [])) some

  module _ {h : Struck} {strip : List ℕ} (k : Hooked h strip) (lent : List ℕ) where
    asked-18 : first_of (named ++ no-18 new lent ∷ []) ≡ first_of (no-18 new lent ∷ [])
    asked-18 = first_passes named (no-18 new lent ∷ []) refl k.none

    pub too_short : length lent < h.count → Outcome (preview limit slip page line cycle lent) (count_answer 18 0) lent
    too_short short =
        preview-refused lent 18 (asked-18 ∙ rw (lt-ltb (length lent) (length new) (omega (arith, k.count))) refl)
        (λ z. omega arith)

    pub previewed : h.count ≤ length lent → (left : List ℕ) → left ≡ sets lent 0 (take h.count strip)
        → Outcome (preview limit slip page line cycle lent) (count_answer 0 h.count) left
    unfolding preview_in
    previewed long left e =
        let fits : length new ≤ length lent = omega (arith, k.count) in
        let pass : first_of (named ++ no-18 new lent ∷ []) ≡ 0 = asked-18 ∙ rw (le-ltb (length lent) (length new) fits) refl in
        let put : sets lent 0 new ≡ at_front new lent = sets-eq new lent 0 (rw zero-add fits) ∙ rw zero-add in
        rw pass (record { answers = ap (count_answer 0) k.count; leaves = e ∙ ap (sets lent 0) k.front ∙ put })

  -- ---- a commit
  commit-refused : (lent : List ℕ) (k : ℕ) → first_of (commit_checks limit slip page line cycle lent) ≡ k → (k ≡ 0 → ⊥)
      → Outcome (commit limit slip page line cycle lent) (handed k slip) page
  unfolding commit_in
  commit-refused lent k e some =
      rw (e, or-refused {A = Handed × List ℕ} _ _ k some)
      (record { answers = refl; leaves = refl })

  pub not-committed : (own : List ℕ) {h : Struck} {strip : List ℕ}
      → Outcome (struck_onto limit slip page line cycle own) h strip → (h.refused ≡ 0 → ⊥) → (lent : List ℕ)
      → Outcome (commit limit slip page line cycle lent) (handed h.refused slip) page
  not-committed own o some lent =
      commit-refused lent _ (refuses own o some (no-19 new lent ∷ no-10 next page ∷ [])) some

  module _ {h : Struck} {strip : List ℕ} (k : Hooked h strip) where
    -- ---- room
    sum-carried : carried h.settled ≡ settled
    sum-carried = ap carried k.sum-settled ∙ settled-carried k.on

    pub settled-fits : nat_abs slip.settled + nat_abs (carried h.settled) < 2 ^ 63
    settled-fits = rw sum-carried (settled-small k.on)

    pub exchanges : slip.lines - 1 + h.count ≤ length page
        → Exchanges page line slip.lines (take h.count strip)
    exchanges room = record {
      there = k.on.there;
      fit = k.on.soundness.fit;
      zeros = sound-zeros limit slip page k.on.soundness;
      room = rw k.front (omega (arith, k.count));
    }

    -- ---- what is left
    lines_after : slip.lines - 1 + h.count ≡ length next
    lines_after = omega (
      arith,
      k.count,
      length-map (waiting_hooks cycle chosen) word_of,
      next-length lines line cycle k.on.named.there,
      length-map (take slip.lines page) line_of,
      length-take-le slip.lines page k.on.soundness.fit,
    )

    slip-after : slip_of slip.shape slip.class (slip.settled +ℤ carried h.settled) (slip.lines - 1 + h.count)
        (slip.steps +ℤ pos 1) slip.mode ≡ next_slip slip lines line cycle
    unfolding next_slip_in
    slip-after = rw (sum-carried, lines_after)

    module _ (bits : (i : ℕ) → get_or page i 0 < 2 ^ 64) where
      -- the words of the lines that come: those of the others, as they were, and the new ones
      words-after : map word_of next ≡ others page line slip.lines ++ new
      unfolding next_lines_in
      words-after =
          let read = front_read slip.lines page bits in
          let first = map-take word_of line lines ∙ ap (take line) read in
          let later = map-drop word_of (suc line) lines ∙ ap (drop (suc line)) read in
          rw (map-append, map-append, first, later)

      page-after : exchanged page line slip.lines (take h.count strip) ≡ padded next page
      page-after =
          let long : length (others page line slip.lines ++ new) ≡ length next =
          ap length (sym words-after) ∙ length-map next word_of in
          rw (k.front, long, words-after)

      module _ (lent : List ℕ) where
        abbrev last : List Check
        last = no-19 new lent ∷ no-10 next page ∷ []

        asked-last : first_of (commit_checks limit slip page line cycle lent) ≡ first_of last
        asked-last = first_passes named last refl k.none

        -- what the code asks: whether the strip fits, and whether the page is full
        abbrev pub compared : Bool
        compared = same (take h.count strip) (take (length (take h.count strip)) lent)

        abbrev pub full : Bool
        full = length page <? slip.lines - 1 + h.count

        same-last : first_of ((not compared, 19) ∷ (full, 10) ∷ []) ≡ first_of last
        same-last = rw (k.front, lines_after) refl

        module _ (r : ℕ) (e : r ≡ first_of ((not compared, 19) ∷ (full, 10) ∷ [])) where
          first : first_of (commit_checks limit slip page line cycle lent) ≡ r
          first = asked-last ∙ sym same-last ∙ sym e

          pub last-refuses : (r ≡ 0 → ⊥) → Outcome (commit limit slip page line cycle lent) (handed r slip) page
          last-refuses some = commit-refused lent r first some

          module _ (z : r ≡ 0) where
            pub roomy : slip.lines - 1 + h.count ≤ length page
            roomy =
                let none = none-applies ((not compared, 19) ∷ (full, 10) ∷ []) refl (sym e ∙ z) in
                ltb-false (length page) (slip.lines - 1 + h.count) none.1.0

            pub committed : (after : Slip) (left : List ℕ)
                → after ≡ slip_of slip.shape slip.class (slip.settled +ℤ carried h.settled)
                (slip.lines - 1 + h.count) (slip.steps +ℤ pos 1) slip.mode
                → left ≡ exchanged page line slip.lines (take h.count strip)
                → Outcome (commit limit slip page line cycle lent) (handed 0 after) left
            unfolding commit_in
            committed after left ea el =
                rw (first ∙ z) (record { answers = ap (handed 0) (ea ∙ slip-after); leaves = el ∙ page-after })
