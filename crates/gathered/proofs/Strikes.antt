-- A line of the gathered mode struck by itself: the plain commit on its one line is refused as the gathered commit is,
-- and leaves the hook lines that wait.
use Rattle.std.specs.Prelude.{◌∷◌, ◌++◌, ◌*◌, ◌^◌, ◌+ℤ◌, ◌*ℤ◌}
use mathlib.Core.Path.{◌≡◌, refl, sym, ◌∙◌, ap, ap₂}
use mathlib.Core.List.{append_assoc}
use Prim.Native.Nat.{◌≤◌, ◌<◌}
use native.Mathlib.Nat.{le_refl, mul-le-mul, mul-one}
use native.Mathlib.Decide.{ℕ_discrete}
use native.Mathlib.Omega.{arith}
use borrow.Author.Tests.{le-ltb, eqb-false}
use lib.IntN.{+ℤ_idl}
use lib.ListN.{length-map}
use lib.Seq.{sets, sets-eq, length-sets, take_at}
use Rattle.theory.specs.Basics.{false, List, [], map, length, take, ℕ}
use Rattle.theory.specs.Basics.{ℤ, pos}
use Rattle.theory.specs.Basics.{nat_abs, sum, ◌=?◌, Each}
use Rattle.theory.proofs.Basics.Integers.Products.{abs-times}
use Rattle.theory.proofs.Basics.Laws.{each_same}
use Rattle.theory.proofs.Bounds.Laws.{factorial-positive}
use Rattle.theory.specs.Limits.{degree_limit}
use Rattle.theory.specs.Partition.{times}
use Rattle.theory.proofs.ShapeWord.Good.{good-shape}
use Rattle.theory.specs.ClassWord.{class_of}
use Rattle.theory.proofs.ClassWord.Laws.{good-class}
use Rattle.theory.specs.Refusals.{Check, first_of, no-8, no_9, no-10, no-19}
use Rattle.theory.proofs.Refusals.Laws.{none-applies, first-refuses, first_passes, both-pass, answer-number}
use Rattle.theory.proofs.Refusals.Laws.{answer-given}
use Rattle.std.specs.declared.result.Result.TheVariants.{Ok, Err}
use Rattle.words.specs.declared.refusal.Refusal.{Refusal}
use Rattle.words.specs.Answers.{Outcome, number_of}
use Rattle.words.proofs.Told.{refuses}
use Rattle.words.proofs.Factorials.{factorial-fits}
use Rattle.pages.specs.Line.{Line, line_degree}
use Rattle.pages.specs.Line.Hooks.{Has, hook-line-class}
use Rattle.pages.specs.Line.Weights.{weight_of}
use Rattle.pages.specs.Page.{line_of, word_of, padded}
use Rattle.pages.specs.Page.Padded.{length-padded}
use Rattle.pages.specs.Mode.{weighted, alongside, unit, words_of, weights_of, plain_mode}
use Rattle.pages.specs.Lawful.Plain.{plain-lawful}
use Rattle.pages.specs.Lawful.Gathered.{gathered-lawful}
use Rattle.pages.specs.Lawful.Checks.{numbered-page}
use Rattle.pages.specs.Sound.{line_value, page_checks}
use Rattle.pages.specs.Sound.Laws.{SoundLine}
use Rattle.pages.proofs.Signed.{carried, carried-is}
use Rattle.characters.proofs.LineValues.{word_value}
use Rattle.sessions.specs.Opening.{Handed, handed}
use Rattle.sessions.specs.Step.{settled_hooks, waiting_hooks, next_lines_in, next_slip_in, commit_in}
use Rattle.sessions.specs.Step.{next_lines, next_slip, commit_checks, commit}
use Rattle.sessions.proofs.Step.Strike.{each-waiting, strike-value}
use Rattle.sessions.proofs.Step.Laws.{NamedOn, named-on}
use Rattle.sessions.proofs.Step.Previews.{few-new}
use Rattle.gathered.specs.declared.commits.Struck.{Struck}
use Rattle.gathered.specs.Private.Alone.{alone}
use Rattle.gathered.specs.Private.Striking.{cleared, turned, struck_checks, Strikes}
use Rattle.gathered.proofs.Alone.{paged, own_line, own-sound, alone-passes}
use Rattle.gathered.proofs.HookWeights.{settled-times, waiting-words, waiting-weights}
use Rattle.gathered.proofs.Squeezing.{length-words}

abbrev struck_of : ℕ → ℤ → Struck
struck_of n z = record { count = n; settled = z }

module _ (x : ℕ) (z : ℤ) (s : SoundLine degree_limit (weighted x z)) (cycle : ℕ) (strip : List ℕ) where
  abbrev l : Line
  l = weighted x z

  abbrev page : List ℕ
  page = paged 15 x

  same : line_of x ≡ unit l
  same = own_line x z s

  -- ---- the checks
  abbrev judge : List Check
  judge = page_checks degree_limit (alone x) page

  abbrev last : List Check
  last = no-10 (next_lines (line_of x ∷ []) 0 cycle) page ∷ []

  judged : first_of judge ≡ 0
  judged = alone-passes x z s degree_limit (le_refl degree_limit) 15 (omega arith)

  abbrev hooks : List Line
  hooks = waiting_hooks cycle l

  abbrev own : List Line
  own = waiting_hooks cycle (line_of x)

  abbrev asked : Line → List Check
  asked y = no_9 (class_of l.class) cycle ∷ no-19 (map word_of (waiting_hooks cycle y)) strip ∷ []

  passed : first_of (commit_checks degree_limit (alone x) page 0 cycle strip) ≡ first_of
      (struck_checks cycle l strip ++ last)
  passed =
      ap first_of (append_assoc judge (no-8 1 0 ∷ no_9 (class_of (line_of x).class) cycle ∷ [])
      (no-19 (map word_of own) strip ∷ last))
      ∙ first_passes judge (no-8 1 0 ∷ (asked (line_of x) ++ last))
      (numbered-page plain-lawful degree_limit (alone x) page) judged
      ∙ ap (λ (y : Line). first_of (asked y ++ last)) same

  -- a line has no more hook lines than there are words
  named : times cycle (class_of l.class) =? 0 ≡ false → NamedOn plain_mode degree_limit (alone x) page 0 cycle
  named has =
      named-on plain-lawful degree_limit (alone x) page 0 cycle
      (first_passes judge (no-8 1 0 ∷ no_9 (class_of l.class) cycle ∷ [])
      (numbered-page plain-lawful degree_limit (alone x) page) judged
      ∙ rw has refl)

  few : times cycle (class_of l.class) =? 0 ≡ false → length own ≤ degree_limit
  few has = omega (arith, few-new plain-lawful degree_limit (alone x) page 0 cycle (named has), length-map own word_of)

  no_room : times cycle (class_of l.class) =? 0 ≡ false → first_of last ≡ 0
  unfolding next_lines_in
  no_room has = rw (le-ltb 16 (length own) (few has)) refl

  -- ---- what the plain commit answers
  module _ {h : Handed} {left : List ℕ} (o : Outcome (commit degree_limit (alone x) page 0 cycle strip) h left) where
    whole : (h, left) ≡ commit degree_limit (alone x) page 0 cycle strip
    whole = ap₂ (λ (a : Handed) (b : List ℕ). (a, b)) o.answers o.leaves

    number : h.refused ≡ first_of (struck_checks cycle l strip ++ last)
    unfolding commit_in
    number =
        answer-number (λ (y : Handed × List ℕ). y.0.refused) (λ k. (handed k (alone x), page)) _ (λ k. refl) refl _
        (h, left) whole
        ∙ passed

    some : (e : Refusal) → h.refused ≡ number_of e → h.refused ≡ 0 → ⊥
    some e is z = refuses e (sym is ∙ z)

    pub strike-refused : {e : Refusal} → h.refused ≡ number_of e → (words : List ℕ) (weights : List ℤ)
        → Strikes cycle l strip (Err e) words weights
    strike-refused {e} is words weights = record {
      number = sym is ∙ elim (ℕ_discrete (first_of (struck_checks cycle l strip)) 0) [
        | yes z ↦
            let has = (none-applies (struck_checks cycle l strip) refl z).0 in
            absurd (some e is (number ∙ first_passes (struck_checks cycle l strip) last refl z ∙ no_room has))
        | no n ↦ number ∙ first-refuses (struck_checks cycle l strip) last n
      ];
      hooked = tt;
    }

    module _ (z-is : h.refused ≡ 0) where
      none : first_of (struck_checks cycle l strip) ≡ 0
      none = (both-pass (struck_checks cycle l strip) last refl (sym number ∙ z-is)).0

      untaken : times cycle (class_of l.class) =? 0 ≡ false
      untaken = (none-applies (struck_checks cycle l strip) refl none).0

      has : Has cycle l
      has = eqb-false (times cycle (class_of l.class)) 0 untaken

      given : ◌≡◌ {A = Handed × List ℕ} (h, left)
          (handed 0 (next_slip (alone x) (line_of x ∷ []) 0 cycle), padded own page)
      unfolding commit_in next_lines_in
      given =
          (answer-given (λ (y : Handed × List ℕ). y.0.refused) (λ k. (handed k (alone x), page)) _ (λ k. refl) refl
          (first_of (commit_checks degree_limit (alone x) page 0 cycle strip)) (h, left) whole z-is).1

      count : h.slip.lines ≡ length own
      unfolding next_slip_in next_lines_in
      count = ap (λ (y : Handed × List ℕ). y.0.slip.lines) given

      settled : h.slip.settled ≡ pos 0 +ℤ sum weight_of (settled_hooks cycle (line_of x))
      unfolding next_slip_in
      settled = ap (λ (y : Handed × List ℕ). y.0.slip.settled) given

      pub fewer : h.slip.lines ≤ degree_limit
      fewer = omega (arith, count, few untaken)

      pub left-long : length left ≡ degree_limit
      left-long =
          ap (λ (y : Handed × List ℕ). length y.1) given ∙ length-padded own page (omega (arith, few untaken))

      pub front : take h.slip.lines left ≡ map word_of own
      front =
          ap (λ (y : Handed × List ℕ). take h.slip.lines y.1) given
          ∙ take_at (map word_of own) _ h.slip.lines (length-map own word_of ∙ sym count)

      -- ---- the product
      abbrev own-sum : ℤ
      own-sum = sum weight_of (settled_hooks cycle (line_of x))

      product : z *ℤ h.slip.settled ≡ sum weight_of (settled_hooks cycle l)
      product =
          ap (λ y. z *ℤ y)
          (settled ∙ +ℤ_idl own-sum ∙ ap (λ (y : Line). sum weight_of (settled_hooks cycle y)) same)
          ∙ sym (settled-times cycle l)

      module _ (value : line_value l < 2 ^ 58) where
        pub size : nat_abs z < 2 ^ 58
        size =
            let n : ℕ = nat_abs z in
            omega (arith, mul-one n, mul-le-mul (le_refl n) (factorial-positive (line_degree l)))

        own-size : nat_abs h.slip.settled < 2 ^ 63
        own-size = omega (
          arith,
          ap nat_abs (settled ∙ +ℤ_idl own-sum),
          strike-value degree_limit cycle (line_of x) (own-sound x z s) has,
          word_value x,
          factorial-fits (line_degree (line_of x)) (omega (arith, (own-sound x z s).within)),
        )

        product-size : nat_abs (z *ℤ h.slip.settled) < 2 ^ 63
        product-size = omega (arith, ap nat_abs product, strike-value degree_limit cycle l s has)

        carried-product : carried z *ℤ carried h.slip.settled ≡ z *ℤ h.slip.settled
        carried-product = ap₂ ◌*ℤ◌ (carried-is z (omega (arith, size))) (carried-is h.slip.settled own-size)

        pub size-carried : nat_abs (carried z) < 2 ^ 63
        size-carried = rw (carried-is z (omega (arith, size))) (omega (arith, size))

        pub times-fits : nat_abs (carried z) * nat_abs (carried h.slip.settled) < 2 ^ 63
        times-fits = rw (← abs-times (carried z) (carried h.slip.settled), carried-product) product-size

        times-is : (r : ℤ) → r ≡ carried z *ℤ carried h.slip.settled
            → carried r ≡ sum weight_of (settled_hooks cycle l)
        times-is r e =
            let is : r ≡ z *ℤ h.slip.settled = e ∙ carried-product in
            ap carried is ∙ carried-is (z *ℤ h.slip.settled) product-size ∙ product

        -- ---- the hook lines that wait
        written : Each gathered-lawful.Written hooks
        written = each_same _ gathered-lawful.Written hooks
            (λ y p.
            let class = (good-class y.class (hook-line-class cycle l s.class has y p.0).0).below in
            gathered-lawful.written-like l y (gathered-lawful.written-waits 1 (x ∷ [], z ∷ [])).0 p.0.same_size
            (omega (arith, (good-shape y.shape p.0.good-shape).below)) (omega arith))
            (each-waiting degree_limit cycle l s has)

        read_back : alongside (words_of hooks) (weights_of hooks) ≡ hooks
        read_back =
            ap₂ alongside (sym (take_at (words_of hooks) _ (length hooks) (length-words hooks)))
            (sym (take_at (weights_of hooks) _ (length hooks) (length-map hooks (λ y. y.weight))))
            ∙ gathered-lawful.waits-put hooks ([], []) written

        front-words : map cleared (take h.slip.lines left) ≡ words_of hooks
        front-words =
            ap (map cleared) (front ∙ ap (λ (y : Line). map word_of (waiting_hooks cycle y)) same)
            ∙ waiting-words cycle l s has

        front-weights : map (turned (carried z)) (take h.slip.lines left) ≡ weights_of hooks
        front-weights =
            ap₂ (λ (y : ℤ) (xs : List ℕ). map (turned y) xs) (carried-is z (omega (arith, size)))
            (front ∙ ap (λ (y : Line). map word_of (waiting_hooks cycle y)) same)
            ∙ waiting-weights cycle l s has

        count-hooks : h.slip.lines ≡ length hooks
        count-hooks =
            omega (
              arith,
              count,
              ap length front,
              length-map own word_of,
              length-map (take h.slip.lines left) cleared,
              ap length front-words,
              length-words hooks,
            )

        put_front : {A : Type 0} (l vs : List A) → length vs ≡ length hooks → length l ≡ degree_limit
            → take h.slip.lines (sets l 0 vs) ≡ vs
        put_front {A = A} l vs n long =
            ap (take h.slip.lines) (sets-eq vs l 0 (omega (arith, count-hooks, fewer)))
            ∙ take_at vs _ h.slip.lines (omega (arith, count-hooks))

        pub strike-done : (words₀ words : List ℕ) (weights₀ weights : List ℤ) (k : ℤ) → length words₀ ≡ degree_limit
            → length weights₀ ≡ degree_limit
            → (words ≡ sets words₀ 0 (map cleared (take h.slip.lines left)))
            × (weights ≡ sets weights₀ 0 (map (turned (carried z)) (take h.slip.lines left)))
            → k ≡ carried z *ℤ carried h.slip.settled
            → Strikes cycle l strip (Ok (struck_of h.slip.lines (carried k))) words weights
        strike-done words₀ words weights₀ weights k long long-weights put product = record {
          number = sym none;
          hooked = record {
            count = count-hooks;
            settled = times-is k product;
            few = fewer;
            long = ap length put.0 ∙ length-sets words₀ 0 (map cleared (take h.slip.lines left)) ∙ long;
            long-weights =
                ap length put.1 ∙ length-sets weights₀ 0 (map (turned (carried z)) (take h.slip.lines left))
                ∙ long-weights;
            lines =
                ap₂ (λ (a : List ℕ) (b : List ℤ). alongside (take h.slip.lines a) (take h.slip.lines b))
                (put.0 ∙ ap (sets words₀ 0) front-words) (put.1 ∙ ap (sets weights₀ 0) front-weights)
                ∙ ap₂ alongside (put_front words₀ (words_of hooks) (length-words hooks) long)
                (put_front weights₀ (weights_of hooks) (length-map hooks (λ y. y.weight)) long-weights)
                ∙ read_back;
          };
        }
