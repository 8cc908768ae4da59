-- How many lines are left where hook lines are joined to lines, all different: each hook line that is equal to a line
-- spares itself, and where the line becomes 0 the line too.
--   news lines hs     how many of hs no line is equal to; spared lines hs, how many lines hs spare
--   stays hs l        1 where l keeps a coefficient when hs are brought to it, and else 0
use Rattle.std.specs.Prelude.{◌&&◌, ◌∷◌, ◌++◌, ◌+◌, ◌-◌, ◌+ℤ◌}
use mathlib.Core.Path.{◌≡◌, refl, sym, ◌∙◌, ap, ap₂}
use mathlib.Core.List.{map-append}
use Prim.Native.Nat.{◌<◌}
use native.Mathlib.Omega.{arith}
use borrow.Author.Tests.{not-true}
use lib.IntN.{+ℤ_idr}
use lib.ListN.{length-append}
use lib.Seq.{split_at}
use Rattle.theory.specs.Basics.{Bool, true, false, not, cond, List, [], map, length, take, drop}
use Rattle.theory.specs.Basics.{ℕ, zero, suc, ℤ, pos, nat_abs, ◌=?◌, keep, every, total, sum}
use Rattle.theory.specs.Basics.{Each}
use Rattle.theory.proofs.Basics.Laws.{each_same, map_same}
use Rattle.theory.proofs.Basics.AtPlace.{every-at}
use Rattle.theory.proofs.Basics.Keep.{every-each, keep_append, keep_same}
use Rattle.pages.specs.Line.{Line}
use Rattle.pages.specs.Page.{line_of, line_at}
use Rattle.pages.specs.Page.Words.{map-take, map-drop}
use Rattle.pages.specs.Gathering.{alike, weighing, lasting, gather, distinct}
use Rattle.pages.specs.Gathering.Different.{Unlike, alike-alike, alike-back, first-unlike, rest-different}
use Rattle.pages.specs.Gathering.Different.{coefficient-none, different-others}
use Rattle.pages.specs.Gathering.AtOnce.{bring, is_new, gathered-at-once}
use Rattle.gathered.specs.Private.Joining.{spares}

-- a hook line that is unlike all lines
unlike-all : (lines : List Line) (h : Line) → Each (λ m. alike m h ≡ false) lines
    → (spares lines h ≡ 0) × (is_new lines h ≡ true)
unfolding spares
unlike-all [] h e = (refl, refl)
unlike-all (m ∷ lines) h e = rw e.0 (unlike-all lines h e.1)

one_kept : (b : Bool) (h : Line) (hs : List Line) → length (cond b (h ∷ hs) hs) ≡ cond b 1 0 + length hs
one_kept true h hs = omega arith
one_kept false h hs = omega arith

abbrev news : List Line → List Line → ℕ
news lines hs = length (keep (is_new lines) hs)

abbrev spared : List Line → List Line → ℕ
spared lines hs = total (map (spares lines) hs)

abbrev stays : List Line → Line → ℕ
stays hs l = length (keep lasting (bring hs l ∷ []))

module _ (l : Line) (lines : List Line) (lasts : lasting l ≡ true) (others : Each (Unlike l) lines) where
  one_line : (hs : List Line) → distinct hs ≡ true
      → spared (l ∷ lines) hs + news (l ∷ lines) hs + stays hs l ≡ spared lines hs + news lines hs + 1
  unfolding spares
  one_line [] d = rw (+ℤ_idr l.weight, lasts)
  one_line (h ∷ hs) d = go (alike l h) refl (one_line hs (rest-different h hs d))
    where
      at : Bool → ℕ
      at b = cond b (cond (nat_abs (l.weight +ℤ h.weight) =? 0) 2 1) (spares lines h)

      new : Bool → List Line
      new b = cond (not b && is_new lines h) (h ∷ keep (is_new (l ∷ lines)) hs) (keep (is_new (l ∷ lines)) hs)

      stay : Bool → ℕ
      stay b = length (keep lasting
          (weighing (l.weight +ℤ sum (λ m. m.weight) (cond b (h ∷ keep (alike l) hs) (keep (alike l) hs))) l ∷ []))

      -- where h is equal to l, it is unlike the other lines, and the other hook lines are unlike l
      lines-unlike : alike l h ≡ true → Each (λ m. alike m h ≡ false) lines
      lines-unlike e = each_same (Unlike l) _ lines
          (λ m u. alike-back m h ∙ sym (alike-alike l h e m) ∙ not-true (alike l m) u) others

      hooks-unlike : alike l h ≡ true → Each (λ k. alike l k ≡ false) hs
      hooks-unlike e =
          each_same (Unlike h) _ hs (λ k u. alike-alike l h e k ∙ not-true (alike h k) u) (first-unlike h hs d)

      becomes : (b : Bool) (m : Line) (a n : ℕ)
          → cond b 2 1 + a + n + length (cond (not b) (m ∷ []) []) ≡ 0 + a + suc n + 1
      becomes true m a n = omega arith
      becomes false m a n = omega arith

      go : (b : Bool) → alike l h ≡ b
          → spared (l ∷ lines) hs + news (l ∷ lines) hs + stays hs l ≡ spared lines hs + news lines hs + 1
          → at b + spared (l ∷ lines) hs + length (new b) + stay b
          ≡ spares lines h + spared lines hs
          + length (cond (is_new lines h) (h ∷ keep (is_new lines) hs) (keep (is_new lines) hs)) + 1
      go true e rest =
          let apart = hooks-unlike e in
          let same : map (spares (l ∷ lines)) hs ≡ map (spares lines) hs =
          map_same (λ k. alike l k ≡ false) (spares (l ∷ lines)) (spares lines) hs (λ k f. rw f refl) apart in
          let new-same : keep (is_new (l ∷ lines)) hs ≡ keep (is_new lines) hs =
          keep_same (λ k. alike l k ≡ false) (is_new (l ∷ lines)) (is_new lines) hs (λ k f. rw f refl) apart in
          let none : sum (λ m. m.weight) (keep (alike l) hs) ≡ pos 0 =
          coefficient-none l hs (each_same (λ k. alike l k ≡ false) (Unlike l) hs (λ k f. ap not f) apart) in
          let alone = unlike-all lines h (lines-unlike e) in
          rw (same, new-same, none, +ℤ_idr h.weight, alone.0, alone.1)
          (becomes (nat_abs (l.weight +ℤ h.weight) =? 0) (weighing (l.weight +ℤ h.weight) l) (spared lines hs)
          (news lines hs))
      go false e rest = omega (
        arith,
        rest,
        one_kept (is_new lines h) h (keep (is_new (l ∷ lines)) hs),
        one_kept (is_new lines h) h (keep (is_new lines) hs),
      )

-- ---- all lines
nothing-spared : (hs : List Line) → spared [] hs + news [] hs ≡ length hs
unfolding spares
nothing-spared [] = refl
nothing-spared (h ∷ hs) = omega (arith, nothing-spared hs)

pub counted : (lines hs : List Line) → distinct lines ≡ true → Each (λ l. lasting l ≡ true) lines → distinct hs ≡ true
    → length (keep lasting (map (bring hs) lines)) + (spared lines hs + news lines hs) ≡ length lines + length hs
counted [] hs d last e = rw (nothing-spared hs) refl
counted (l ∷ lines) hs d last e =
    let kept : List Line = keep lasting (map (bring hs) lines) in
    let first : length (keep lasting (bring hs l ∷ map (bring hs) lines)) ≡ stays hs l + length kept =
    ap length (keep_append lasting (bring hs l ∷ []) (map (bring hs) lines))
    ∙ length-append (keep lasting (bring hs l ∷ [])) kept in
    omega (
      arith,
      first,
      one_line l lines last.0 (first-unlike l lines d) hs e,
      counted lines hs (rest-different l lines d) last.1 e,
    )

-- ---- a line is struck out
module _ (f : Line → Line) where
  pub others-map : (i : ℕ) (lines : List Line)
      → take i (map f lines) ++ drop (suc i) (map f lines) ≡ map f (take i lines ++ drop (suc i) lines)
  others-map i lines =
      ap₂ ◌++◌ (sym (map-take f i lines)) (sym (map-drop f (suc i) lines))
      ∙ sym (map-append f (take i lines) (drop (suc i) lines))

-- the line that is struck out is unlike the hook line h
pub new_others : (lines : List Line) (i : ℕ) (h : Line) → i < length lines → Unlike (line_at lines i) h
    → is_new lines h ≡ is_new (take i lines ++ drop (suc i) lines) h
new_others [] i h l u = absurd (omega arith)
new_others (m ∷ lines) zero h l u = rw (not-true (alike m h) u)
new_others (m ∷ lines) (suc i) h l u =
    ap (λ (b : Bool). not (alike m h) && b) (new_others lines i h (omega arith) u)

module _ (lines hs : List Line) (i : ℕ) (there : i < length lines) where
  abbrev struck : Line
  struck = line_at lines i

  abbrev rest : List Line
  rest = take i lines ++ drop (suc i) lines

  -- no weight is brought to it, so it stays with its coefficient
  struck-stays : Each (Unlike struck) hs → lasting struck ≡ true
      → length (keep lasting (map (bring hs) lines)) ≡ 1 + length (keep lasting (map (bring hs) rest))
  struck-stays u last =
      let first : List Line = map (bring hs) (take i lines) in
      let later : List Line = map (bring hs) (drop (suc i) lines) in
      let split : map (bring hs) lines ≡ first ++ bring hs struck ∷ later =
      ap (map (bring hs)) (split_at lines i (line_of 0) there)
      ∙ map-append (bring hs) (take i lines) (struck ∷ drop (suc i) lines) in
      let stays-as : bring hs struck ≡ struck =
      ap (λ (z : ℤ). weighing z struck)
      (ap (λ (z : ℤ). struck.weight +ℤ z) (coefficient-none struck hs u) ∙ +ℤ_idr struck.weight) in
      let kept : keep lasting (bring hs struck ∷ later) ≡ struck ∷ keep lasting later =
      ap (λ (m : Line). cond (lasting m) (m ∷ keep lasting later) (keep lasting later)) stays-as
      ∙ ap (λ (b : Bool). cond b (struck ∷ keep lasting later) (keep lasting later)) last in
      omega (
        arith,
        ap (λ (ls : List Line). length (keep lasting ls)) split,
        ap length (keep_append lasting first (bring hs struck ∷ later)),
        length-append (keep lasting first) (keep lasting (bring hs struck ∷ later)),
        ap length kept,
        ap (λ (ls : List Line). length (keep lasting ls)) (map-append (bring hs) (take i lines) (drop (suc i) lines)),
        ap length (keep_append lasting first later),
        length-append (keep lasting first) (keep lasting later),
      )

  module _ (apart : distinct lines ≡ true) (last : every lasting lines ≡ true) (different-hooks : distinct hs ≡ true)
      (lasting-hooks : every lasting hs ≡ true) (unlike-struck : Each (Unlike struck) hs) where
    pub new-same : keep (is_new lines) hs ≡ keep (is_new rest) hs
    new-same = keep_same (Unlike struck) (is_new lines) (is_new rest) hs (λ h. new_others lines i h there) unlike-struck

    -- the lines that come of it: those that stay, and the new ones
    pub next-parts : gather rest hs ≡ keep lasting (map (bring hs) rest) ++ keep (is_new lines) hs
    next-parts =
        gathered-at-once rest hs lasting-hooks different-hooks (different-others lines i apart)
        ∙ ap (λ (ls : List Line). keep lasting (map (bring hs) rest) ++ ls) (sym new-same)

    pub next-count : length (gather rest hs) + total (map (spares lines) hs) ≡ length lines - 1 + length hs
    next-count = omega (
      arith,
      ap length next-parts,
      length-append (keep lasting (map (bring hs) rest)) (keep (is_new lines) hs),
      struck-stays unlike-struck (every-at lasting lines (line_of 0) i last there),
      counted lines hs apart (every-each lasting lines last) different-hooks,
    )
