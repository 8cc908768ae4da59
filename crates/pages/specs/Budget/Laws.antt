-- Soundness is decided by budgets that fall, and never by a sum that grows; lines can be counted in parts.
--   Afforded n value span lines   the lines are sound within n, and what they count in all is within the two budgets
use Rattle.std.specs.Prelude.{◌≡◌, min, ◌≤◌, ◌&&◌, ◌∷◌, ◌++◌, ◌-◌}
use Rattle.std.proofs.Math.Path.{refl, ap}
use Rattle.std.proofs.Common.{sym, ◌∙◌}
use Rattle.std.proofs.lemmas.Bool.{false≢true}
use native.Mathlib.Omega.{arith}
use Rattle.std.specs.Int.Signed.{non_neg}
use borrow.Author.Tests.{leb-true, le-leb}
use Rattle.theory.specs.Basics.{Bool, true, false, cond, List, [], length, ℕ, nat_abs, ◌=?◌}
use Rattle.theory.specs.Basics.{◌≤?◌, Each}
use Rattle.theory.proofs.Basics.Laws.{both}
use Rattle.theory.proofs.Basics.Keep.{same_test}
use Rattle.theory.specs.Bounds.{factorial, S}
use Rattle.pages.specs.Line.{Line}
use Rattle.pages.specs.Page.{Slip}
use Rattle.pages.specs.Mode.{Mode, waiting_in}
use Rattle.pages.specs.Sound.{sound_line, sound_words, line_value, line_span, sound_lines, sound_in}
use Rattle.pages.specs.Sound.Laws.{SoundLine, sound-line, line-sound, asked, values, spans}
use Rattle.pages.specs.Sound.Laws.{SoundLines, words-matched, matched-words, are-sound, sound-are}
use Rattle.pages.specs.Budget.{left, overspent, budget_of, spent_on, spent_all, Budget}

record Afforded (n value span : ℕ) (lines : List Line) : Type 0 where
  each : Each (SoundLine n) lines
  enough : values lines ≤ value
  lasting : spans lines ≤ span

module _ (limit : ℕ) where
  -- ---- in parts
  pub spent-append : (b : Budget) (xs ys : List Line)
      → spent_all limit b (xs ++ ys) ≡ spent_all limit (spent_all limit b xs) ys
  unfolding spent_all
  spent-append b [] ys = refl
  spent-append b (x ∷ xs) ys = spent-append (spent_on limit b x) xs ys

  pub overspent-stays : (lines : List Line) → spent_all limit overspent lines ≡ overspent
  unfolding spent_all spent_on
  overspent-stays [] = refl
  overspent-stays (l ∷ lines) = overspent-stays lines

  -- a line, test by test: t, that the budget suffices and the line is sound; u, that both suffice for it besides
  module _ (b : Budget) (l : Line) where
    abbrev pub pays : Bool → Bool
    pays t = t && line_value l ≤? b.value && line_span l ≤? b.span

    pub spent-by : (t u : Bool) → (b.enough && sound_line (min b.degree limit) l) ≡ t → pays t ≡ u
        → spent_on limit b l ≡ cond u (left b.degree (b.value - line_value l) (b.span - line_span l)) overspent
    unfolding spent_on
    spent-by t u e f =
        ap (λ t. cond t (left b.degree (b.value - line_value l) (b.span - line_span l)) overspent) (ap pays e ∙ f)

  -- ---- what sufficient budgets tell of the lines
  module _ (n : ℕ) (small : n ≤ limit) where
    cut : min n limit ≡ n
    cut = omega arith

    afforded : (value span : ℕ) (lines : List Line) → (spent_all limit (left n value span) lines).enough ≡ true
        → Afforded n value span lines
    unfolding spent_all
    afforded value span [] t = record { each = tt; enough = omega arith; lasting = omega arith }
    afforded value span (l ∷ lines) t = go _ refl (afforded (value - line_value l) (span - line_span l) lines) t
      where
        after : Budget → Bool
        after c = (spent_all limit c lines).enough

        b : Budget
        b = left n value span

        go : (u : Bool) → pays b l (sound_line n l) ≡ u
            → (after (left n (value - line_value l) (span - line_span l)) ≡ true
            → Afforded n (value - line_value l) (span - line_span l) lines)
            → after (spent_on limit b l) ≡ true → Afforded n value span (l ∷ lines)
        go true suffices rest t =
            let lasts = both (sound_line n l && line_value l ≤? value) (line_span l ≤? span) suffices in
            let paid = both (sound_line n l) (line_value l ≤? value) lasts.0 in
            let v : line_value l ≤ value = leb-true _ value paid.1 in
            let s : line_span l ≤ span = leb-true _ span lasts.1 in
            let goes = spent-by b l _ true (ap (λ m. sound_line m l) cut) suffices in
            let r = rest (sym (ap after goes) ∙ t) in
            record {
              each = (sound-line n l paid.0, r.each);
              enough = omega (arith, r.enough);
              lasting = omega (arith, r.lasting);
            }
        go false suffices rest t =
            let none = spent-by b l _ false (ap (λ m. sound_line m l) cut) suffices in
            absurd (false≢true (sym (ap after none ∙ ap (λ (c : Budget). c.enough) (overspent-stays lines)) ∙ t))

    is-afforded : (value span : ℕ) (lines : List Line) → Afforded n value span lines
        → (spent_all limit (left n value span) lines).enough ≡ true
    unfolding spent_all
    is-afforded value span [] a = refl
    is-afforded value span (l ∷ lines) a =
        let b : Budget = left n value span in
        let v : line_value l ≤ value = omega (arith, a.enough) in
        let s : line_span l ≤ span = omega (arith, a.lasting) in
        let paid : pays b l true ≡ true = rw (le-leb (line_value l) value v, le-leb (line_span l) span s) in
        let goes = spent-by b l true true (rw (cut, line-sound a.each.0)) paid in
        ap (λ (c : Budget). (spent_all limit c lines).enough) goes
        ∙ is-afforded (value - line_value l) (span - line_span l) lines
        (record { each = a.each.1; enough = omega (arith, a.enough); lasting = omega (arith, a.lasting) })

-- ---- it is the soundness of document 01
module _ (limit : ℕ) (slip : Slip) (lines : List Line) where
  abbrev opens : Bool
  opens =
      sound_words limit slip && non_neg slip.steps && nat_abs slip.settled ≤? factorial (asked slip)
      && nat_abs slip.steps ≤? S (asked slip)

  abbrev value : ℕ
  value = factorial (asked slip) - nat_abs slip.settled

  abbrev span : ℕ
  span = S (asked slip) - nat_abs slip.steps

  enough : (spent_all limit (budget_of limit slip) lines).enough ≡ true → SoundLines limit slip lines
  unfolding budget_of
  enough t = go opens refl t
    where
      go : (b : Bool) → opens ≡ b → (spent_all limit (cond b (left (asked slip) value span) overspent) lines).enough ≡ true
          → SoundLines limit slip lines
      go true o t =
          let c = both _ (nat_abs slip.steps ≤? S (asked slip)) o in
          let b = both _ (nat_abs slip.settled ≤? factorial (asked slip)) c.0 in
          let a = both (sound_words limit slip) (non_neg slip.steps) b.0 in
          let words = words-matched limit slip a.0 in
          let r = afforded limit (asked slip) words.shape.small value span lines t in
          record {
            words = words;
            each = r.each;
            value = omega (arith, r.enough, leb-true (nat_abs slip.settled) (factorial (asked slip)) b.1);
            forward = a.1;
            span = omega (arith, r.lasting, leb-true (nat_abs slip.steps) (S (asked slip)) c.1);
          }
      go false o t = absurd (false≢true (sym (ap (λ (b : Budget). b.enough) (overspent-stays limit lines)) ∙ t))

  suffices : SoundLines limit slip lines → (spent_all limit (budget_of limit slip) lines).enough ≡ true
  unfolding budget_of
  suffices s =
      let settled : nat_abs slip.settled ≤ factorial (asked slip) = omega (arith, s.value) in
      let steps : nat_abs slip.steps ≤ S (asked slip) = omega (arith, s.span) in
      rw (
        matched-words limit slip s.words,
        s.forward,
        le-leb (nat_abs slip.settled) (factorial (asked slip)) settled,
        le-leb (nat_abs slip.steps) (S (asked slip)) steps,
      )
      (is-afforded limit (asked slip) s.words.shape.small value span lines
      (record { each = s.each; enough = omega (arith, s.value); lasting = omega (arith, s.span) }))

  pub budget-sound : (spent_all limit (budget_of limit slip) lines).enough ≡ sound_lines limit slip lines
  budget-sound =
      same_test (spent_all limit (budget_of limit slip) lines).enough (sound_lines limit slip lines)
      (λ t. sound-are limit slip lines (enough t)) (λ t. suffices (are-sound limit slip lines t))

-- and so of what is lent in a mode
pub budget-sound-in : (m : Mode) (limit : ℕ) (slip : Slip) (x : m.Lent) → sound_in m limit slip x
    ≡ (slip.mode =? m.number && slip.lines ≤? length (m.page x) && m.idle slip.lines x
    && (m.stands (waiting_in m slip x) && (spent_all limit (budget_of limit slip) (waiting_in m slip x)).enough))
unfolding sound_in
budget-sound-in m limit slip x =
    ap (λ b. slip.mode =? m.number && slip.lines ≤? length (m.page x) && m.idle slip.lines x
    && (m.stands (waiting_in m slip x) && b))
    (sym (budget-sound limit slip (waiting_in m slip x)))
