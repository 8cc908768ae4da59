-- What the code makes of lines and hook lines is what gathering them gives. Both are words with coefficients beside
-- them: xs and zs the lines, ys and ws the hook lines.
--   new ys ws   the hook lines that no line is equal to
use Rattle.std.specs.Prelude.{◌&&◌, ◌∷◌, ◌++◌, ◌+◌, ◌-◌, ◌/◌, ◌%◌, ◌^◌, ◌+ℤ◌}
use mathlib.Core.Path.{◌≡◌, refl, sym, ◌∙◌, ap, ap₂}
use mathlib.Core.List.{map-map}
use Prim.Native.Nat.{◌≤◌}
use native.Mathlib.Omega.{arith}
use borrow.Author.Tests.{eqb-true, eq-eqb, ne_eqb, lt-ltb, ltb-true}
use lib.IntN.{+ℤ_idr}
use lib.ListN.{length-append, length-map, length-replicate, length-set}
use Rattle.theory.specs.Basics.{Bool, true, false, not, cond, List, [], map, length, get_or, set, take}
use Rattle.theory.specs.Basics.{drop, replicate}
use Rattle.theory.specs.Basics.{ℕ, zero, suc, ℤ, pos, nat_abs, ◌=?◌, ◌<?◌, keep}
use Rattle.theory.specs.Basics.{every}
use Rattle.theory.specs.Basics.{total, sum}
use Rattle.theory.proofs.Basics.Laws.{both, each_same, each_member, map_same}
use Rattle.theory.proofs.Basics.Keep.{same_test, length-keep}
use Rattle.words.specs.Answers.{Outcome}
use Rattle.pages.specs.Line.{Line}
use Rattle.pages.specs.Page.{padded}
use Rattle.pages.specs.Mode.{weighted, alongside, unit, words_of, weights_of, gathered_mode}
use Rattle.pages.specs.Gathering.{alike, weighing, lasting, distinct}
use Rattle.pages.specs.Gathering.Different.{Unlike, unlike, alike-alike, alike-back, first-unlike, rest-different}
use Rattle.pages.specs.Gathering.Different.{coefficient-none}
use Rattle.pages.specs.Gathering.AtOnce.{bring, is_new, all-unchanged, bring-more}
use Rattle.pages.specs.Lawful.Gathered.{length-alongside}
use Rattle.gathered.specs.Private.Joining.{place, saved_at, saved_by, raised, picked, spares, kept, stayed, putting}
use Rattle.gathered.proofs.Counted.{others-map}
use Rattle.gathered.proofs.Squeezing.{word_back}

-- ---- lines are equal where their words are
pub alike-words : (x y : ℕ) (z w : ℤ) → alike (weighted x z) (weighted y w) ≡ (x =? y)
alike-words x y z w = same_test (alike (weighted x z) (weighted y w)) (x =? y)
    (λ e.
    let b = both (x / 2 ^ 32 =? y / 2 ^ 32) (x % 2 ^ 32 =? y % 2 ^ 32) e in
    eq-eqb x y (omega (arith, eqb-true (x / 2 ^ 32) (y / 2 ^ 32) b.0, eqb-true (x % 2 ^ 32) (y % 2 ^ 32) b.1)))
    (λ e.
    let same = eqb-true x y e in
    rw (
      eq-eqb (x / 2 ^ 32) (y / 2 ^ 32) (ap (λ (n : ℕ). n / 2 ^ 32) same),
      eq-eqb (x % 2 ^ 32) (y % 2 ^ 32)
          (ap (λ (n : ℕ). n % 2 ^ 32) same),
    ) refl)

-- ---- numbers from 1 on
suc-same : (m n : ℕ) → (suc m =? suc n) ≡ (m =? n)
suc-same m n = same_test (suc m =? suc n) (m =? n)
    (λ e. eq-eqb m n (omega (arith, eqb-true (suc m) (suc n) e)))
    (λ e. eq-eqb (suc m) (suc n) (ap suc (eqb-true m n e)))

suc-below : (m n : ℕ) → (suc m <? suc n) ≡ (m <? n)
suc-below m n = same_test (suc m <? suc n) (m <? n)
    (λ e. lt-ltb m n (omega (arith, ltb-true (suc m) (suc n) e)))
    (λ e. lt-ltb (suc m) (suc n) (omega (arith, ltb-true m n e)))

-- ---- a word that is found, and one that is not
module _ (y : ℕ) (w : ℤ) where
  abbrev hook : Line
  hook = weighted y w

  pub new-place : (xs : List ℕ) (zs : List ℤ) → length xs ≡ length zs
      → (place xs y =? length xs) ≡ is_new (alongside xs zs) hook
  unfolding place
  new-place [] zs e = refl
  new-place (x ∷ xs) [] e = absurd (omega arith)
  new-place (x ∷ xs) (z ∷ zs) e =
      rw (alike-words x y z w) (go (x =? y) (new-place xs zs (omega arith)))
    where
      go : (b : Bool) → (place xs y =? length xs) ≡ is_new (alongside xs zs) hook
          → (cond b 0 (suc (place xs y)) =? suc (length xs)) ≡ (not b && is_new (alongside xs zs) hook)
      go true rest = ne_eqb 0 (suc (length xs)) (λ f. omega arith)
      go false rest = suc-same (place xs y) (length xs) ∙ rest

  pub place-within : (xs : List ℕ) → place xs y ≤ length xs
  unfolding place
  place-within [] = omega arith
  place-within (x ∷ xs) = go (x =? y) (place-within xs)
    where
      go : (b : Bool) → place xs y ≤ length xs → cond b 0 (suc (place xs y)) ≤ suc (length xs)
      go true l = omega arith
      go false l = omega arith

  -- the weight is added at the place, and nowhere else
  pub raised-one : (xs : List ℕ) (zs : List ℤ) → length xs ≡ length zs → distinct (alongside xs zs) ≡ true
      → alongside xs (set zs (place xs y) (get_or zs (place xs y) (pos 0) +ℤ w)) ≡ map (bring (hook ∷ []))
      (alongside xs zs)
  unfolding place
  raised-one [] zs e d = refl
  raised-one (x ∷ xs) [] e d = absurd (omega arith)
  raised-one (x ∷ xs) (z ∷ zs) e d =
      rw (alike-words x y z w) (go (x =? y) refl
      (raised-one xs zs (omega arith) (rest-different l (alongside xs zs) d)))
    where
      l : Line
      l = weighted x z

      others : List Line
      others = map (bring (hook ∷ [])) (alongside xs zs)

      -- the lines after l are unlike l, and so unlike the hook line
      rest-same : x =? y ≡ true → alongside xs zs ≡ others
      rest-same t = sym (all-unchanged (hook ∷ []) (alongside xs zs) (each_same (Unlike l) _ (alongside xs zs)
          (λ m u. coefficient-none m (hook ∷ [])
          (ap not (alike-back m hook ∙ sym (alike-alike l hook (alike-words x y z w ∙ t) m)) ∙ u, tt))
          (first-unlike l (alongside xs zs) d)))

      go : (b : Bool) → (x =? y) ≡ b
          → alongside xs (set zs (place xs y) (get_or zs (place xs y) (pos 0) +ℤ w)) ≡ others
          → alongside (x ∷ xs)
          (set (z ∷ zs) (cond b 0 (suc (place xs y))) (get_or (z ∷ zs) (cond b 0 (suc (place xs y))) (pos 0) +ℤ w))
          ≡ weighing (z +ℤ sum (λ m. m.weight) (cond b (hook ∷ []) [])) l ∷ others
      go true t rest = ap₂ (λ (a : ℤ) (ls : List Line). weighted x (z +ℤ a) ∷ ls) (sym (+ℤ_idr w)) (rest-same t)
      go false t rest = ap₂ (λ (a : ℤ) (ls : List Line). weighted x a ∷ ls) (sym (+ℤ_idr z)) rest

  pub spared-one : (xs : List ℕ) (zs : List ℤ) → length xs ≡ length zs
      → saved_at zs (place xs y) w ≡ spares (alongside xs zs) hook
  unfolding place saved_at spares
  spared-one [] [] e = refl
  spared-one [] (z ∷ zs) e = absurd (omega arith)
  spared-one (x ∷ xs) [] e = absurd (omega arith)
  spared-one (x ∷ xs) (z ∷ zs) e =
      rw (alike-words x y z w) (go (x =? y) (spared-one xs zs (omega arith)))
    where
      go : (b : Bool) → saved_at zs (place xs y) w ≡ spares (alongside xs zs) hook
          → saved_at (z ∷ zs) (cond b 0 (suc (place xs y))) w
          ≡ cond b (cond (nat_abs (z +ℤ w) =? 0) 2 1) (spares (alongside xs zs) hook)
      go true rest = rw (lt-ltb 0 (suc (length zs)) (omega arith))
      go false rest = ap (λ (b : Bool). cond b (cond (nat_abs (get_or zs (place xs y) (pos 0) +ℤ w) =? 0) 2 1) 0)
          (suc-below (place xs y) (length zs)) ∙ rest

-- ---- all hook lines
-- what is brought leaves shapes and classes as they are
every-brought : (test : Line → Bool) → ((z : ℤ) (l : Line) → test (weighing z l) ≡ test l) → (hs lines : List Line)
    → every test (map (bring hs) lines) ≡ every test lines
every-brought test plain hs [] = refl
every-brought test plain hs (l ∷ lines) = ap₂ ◌&&◌ (plain _ l) (every-brought test plain hs lines)

different-bring : (hs lines : List Line) → distinct (map (bring hs) lines) ≡ distinct lines
unfolding distinct
different-bring hs [] = refl
different-bring hs (l ∷ lines) =
    ap₂ ◌&&◌ (every-brought (unlike l) (λ z m. refl) hs lines) (different-bring hs lines)

pub raised_all : (xs : List ℕ) (ys : List ℕ) (ws zs : List ℤ) → length xs ≡ length zs
    → distinct (alongside xs zs) ≡ true
    → alongside xs (raised zs (map (place xs) ys) ws) ≡ map (bring (alongside ys ws)) (alongside xs zs)
unfolding raised
raised_all xs [] ws zs e d = sym (all-unchanged [] (alongside xs zs) (each_member _ (alongside xs zs) (λ l m. refl)))
raised_all xs (y ∷ ys) [] zs e d =
    sym (all-unchanged [] (alongside xs zs) (each_member _ (alongside xs zs) (λ l m. refl)))
raised_all xs (y ∷ ys) (w ∷ ws) zs e d =
    let h : Line = weighted y w in
    let now : List ℤ = set zs (place xs y) (get_or zs (place xs y) (pos 0) +ℤ w) in
    let one = raised-one y w xs zs e d in
    raised_all xs ys ws now (e ∙ sym (length-set zs (place xs y) _))
    (ap distinct one ∙ different-bring (h ∷ []) (alongside xs zs) ∙ d)
    ∙ ap (map (bring (alongside ys ws))) one
    ∙ map-map (bring (alongside ys ws)) (bring (h ∷ [])) (alongside xs zs)
    ∙ map_same (λ l. Unit {0}) _ _ (alongside xs zs) (λ l t. bring-more h (alongside ys ws) l)
    (each_member _ (alongside xs zs) (λ l m. tt))

pub spared-all : (xs : List ℕ) (zs : List ℤ) → length xs ≡ length zs → (ys : List ℕ) (ws : List ℤ)
    → saved_by zs (map (place xs) ys) ws ≡ total (map (spares (alongside xs zs)) (alongside ys ws))
unfolding saved_by
spared-all xs zs e [] ws = refl
spared-all xs zs e (y ∷ ys) [] = refl
spared-all xs zs e (y ∷ ys) (w ∷ ws) = ap₂ ◌+◌ (spared-one y w xs zs e) (spared-all xs zs e ys ws)

module _ (xs : List ℕ) (zs : List ℤ) (e : length xs ≡ length zs) where
  abbrev new : List ℕ → List ℤ → List Line
  new ys ws = keep (is_new (alongside xs zs)) (alongside ys ws)

  pub picked_words : (ys : List ℕ) (ws : List ℤ) → length ys ≡ length ws
      → picked (length xs) (map (place xs) ys) ys ≡ words_of (new ys ws)
  unfolding picked
  picked_words [] ws same = refl
  picked_words (y ∷ ys) [] same = absurd (omega arith)
  picked_words (y ∷ ys) (w ∷ ws) same =
      rw (new-place y w xs zs e) (go (is_new (alongside xs zs) (weighted y w)) (picked_words ys ws (omega arith)))
    where
      go : (b : Bool) → picked (length xs) (map (place xs) ys) ys ≡ words_of (new ys ws)
          → cond b (y ∷ picked (length xs) (map (place xs) ys) ys) (picked (length xs) (map (place xs) ys) ys)
          ≡ words_of (cond b (weighted y w ∷ new ys ws) (new ys ws))
      go true rest = ap₂ ◌∷◌ (sym (word_back y w)) rest
      go false rest = rest

  pub picked-weights : (ys : List ℕ) (ws : List ℤ)
      → picked (length xs) (map (place xs) ys) ws ≡ weights_of (new ys ws)
  unfolding picked
  picked-weights [] ws = refl
  picked-weights (y ∷ ys) [] = refl
  picked-weights (y ∷ ys) (w ∷ ws) =
      rw (new-place y w xs zs e) (go (is_new (alongside xs zs) (weighted y w)) (picked-weights ys ws))
    where
      go : (b : Bool) → picked (length xs) (map (place xs) ys) ws ≡ weights_of (new ys ws)
          → cond b (w ∷ picked (length xs) (map (place xs) ys) ws) (picked (length xs) (map (place xs) ys) ws)
          ≡ weights_of (cond b (weighted y w ∷ new ys ws) (new ys ws))
      go true rest = ap {B = List ℤ} (λ vs. w ∷ vs) rest
      go false rest = rest

-- ---- the lines that stay
pub length-raised : (zs : List ℤ) (ps : List ℕ) (ws : List ℤ) → length (raised zs ps ws) ≡ length zs
unfolding raised
length-raised zs [] ws = refl
length-raised zs (p ∷ ps) [] = refl
length-raised zs (p ∷ ps) (w ∷ ws) =
    length-raised (set zs p (get_or zs p (pos 0) +ℤ w)) ps ws ∙ length-set zs p (get_or zs p (pos 0) +ℤ w)

pub struck-kept : (xs : List ℕ) (us : List ℤ) (i : ℕ)
    → kept xs (set us i (pos 0)) ≡ keep lasting (take i (alongside xs us) ++ drop (suc i) (alongside xs us))
struck-kept [] us zero = refl
struck-kept [] us (suc i) = refl
struck-kept (x ∷ xs) [] zero = refl
struck-kept (x ∷ xs) [] (suc i) = refl
struck-kept (x ∷ xs) (u ∷ us) zero = refl
struck-kept (x ∷ xs) (u ∷ us) (suc i) =
    ap (λ (ls : List Line). cond (lasting (weighted x u)) (weighted x u ∷ ls) ls) (struck-kept xs us i)

pub stayed-is : (xs : List ℕ) (zs : List ℤ) (i : ℕ) (ys : List ℕ) (ws : List ℤ) → length xs ≡ length zs
    → distinct (alongside xs zs) ≡ true
    → stayed xs zs i (map (place xs) ys) ws
    ≡ keep lasting (map (bring (alongside ys ws)) (take i (alongside xs zs) ++ drop (suc i) (alongside xs zs)))
stayed-is xs zs i ys ws e d =
    struck-kept xs (raised zs (map (place xs) ys) ws) i
    ∙ ap (λ (ls : List Line). keep lasting (take i ls ++ drop (suc i) ls)) (raised_all xs ys ws zs e d)
    ∙ ap (keep lasting) (others-map (bring (alongside ys ws)) i (alongside xs zs))

-- what is put is put over any column of the same length
pub put-again : (page : List ℕ) (column : List ℤ) (line : ℕ) (ps : List ℕ) (ws : List ℤ) {r : ℕ} {p : List ℕ}
    {c up : List ℤ} → let now = set up line (pos 0) in
    Outcome (putting (kept page now) page now) r (p, c) → up ≡ raised column ps ws
    → Outcome (putting (stayed page column line ps ws) page column) r (p, c)
put-again page column line ps ws {up = up} o e =
    let now : List ℤ = set up line (pos 0) in
    let long : length now ≡ length column = length-set up line (pos 0) ∙ ap length e ∙ length-raised column ps ws in
    let all : kept page now ≡ stayed page column line ps ws = ap (λ (d : List ℤ). kept page (set d line (pos 0))) e in
    record {
      answers = o.answers ∙ ap length all;
      leaves = o.leaves ∙ ap₂ (λ (ls : List Line) (n : ℕ).
          (padded (map unit ls) page, weights_of ls ++ replicate (n - length ls) (pos 0))) all long;
    }

-- as many coefficients are left as there were
pub put-length : (page : List ℕ) (column now : List ℤ) {p : List ℕ} {c : List ℤ} → length page ≡ length column
    → length now ≡ length column → (p, c) ≡ gathered_mode.put (kept page now) (page, column) → length c ≡ length column
put-length page column now {c = c} same long e =
    let ls : List Line = kept page now in
    let is : c ≡ weights_of ls ++ replicate (length column - length ls) (pos 0) = ap (λ (x : List ℕ × List ℤ). x.1) e in
    ap length is
    ∙ simp (length-append, length-map, length-replicate)
    (omega (arith, length-keep lasting (alongside page now), length-alongside page now (same ∙ sym long)))
