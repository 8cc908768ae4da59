-- Different lines are joined all at once (document 02, P7): each line takes what the one equal to it brings, and those
-- equal to no line come at the end, in their order.
--   bring hs l       the line l with what hs bring to it
--   is_new lines h    no line is equal to h
use Rattle.std.specs.Prelude.{◌≡◌, ◌&&◌, ◌∷◌, ◌++◌, ◌+ℤ◌}
use Rattle.std.proofs.Math.Path.{refl}
use Rattle.std.proofs.Common.{sym, ◌∙◌, ap, ap₂, append_assoc, append-nil}
use Rattle.std.proofs.lemmas.List.{map-append}
use Rattle.std.proofs.lemmas.Simd.{map-map}
use Rattle.std.proofs.lemmas.Bool.{not-true}
use Rattle.std.proofs.Math.IntN.{+ℤ_assoc, +ℤ_idl, +ℤ_idr}
use Rattle.theory.specs.Basics.{Bool, true, false, not, cond, List, [], map, ℤ, pos, keep, every}
use Rattle.theory.specs.Basics.{sum, Each}
use Rattle.theory.proofs.Basics.Laws.{each_same, each_member, map_same}
use Rattle.theory.proofs.Basics.Keep.{every-each, each-kept, keep_all, keep_append, keep_same}
use Rattle.pages.specs.Line.{Line}
use Rattle.pages.specs.Gathering.{alike, weighing, brought, all_brought, lasting, gather, distinct, coefficient}
use Rattle.pages.specs.Gathering.Different.{Unlike, alike-alike, alike-back, first-unlike, rest-different}
use Rattle.pages.specs.Gathering.Different.{different-brought, coefficient-none}

abbrev pub bring : List Line → Line → Line
bring hs l = weighing (l.weight +ℤ coefficient l hs) l

abbrev pub is_new : List Line → Line → Bool
is_new lines h = every (λ l. not (alike l h)) lines

-- ---- what is brought
pub all-unchanged : (hs lines : List Line) → Each (λ l. coefficient l hs ≡ pos 0) lines → map (bring hs) lines ≡ lines
all-unchanged hs [] e = refl
all-unchanged hs (l ∷ lines) e =
    ap₂ (λ (z : ℤ) (ls : List Line). weighing z l ∷ ls)
    (ap (λ z. l.weight +ℤ z) e.0 ∙ +ℤ_idr l.weight) (all-unchanged hs lines e.1)

module _ (h : Line) (hs : List Line) where
  coefficient-more : (l : Line) → coefficient l (h ∷ hs) ≡ coefficient l (h ∷ []) +ℤ coefficient l hs
  coefficient-more l = go (alike l h) (keep (alike l) hs)
    where
      weigh : List Line → ℤ
      weigh ls = sum (λ m. m.weight) ls

      go : (b : Bool) (ls : List Line) → weigh (cond b (h ∷ ls) ls) ≡ weigh (cond b (h ∷ []) []) +ℤ weigh ls
      go true ls = ap (λ z. z +ℤ weigh ls) (sym (+ℤ_idr h.weight))
      go false ls = sym (+ℤ_idl (weigh ls))

  pub bring-more : (l : Line) → bring hs (bring (h ∷ []) l) ≡ bring (h ∷ hs) l
  bring-more l = ap (λ z. weighing z l)
      (+ℤ_assoc l.weight (coefficient l (h ∷ [])) (coefficient l hs)
      ∙ ap (λ z. l.weight +ℤ z) (sym (coefficient-more l)))

-- ---- one line
module _ (h : Line) where
  new-brought : (lines : List Line) (x : Line) → Unlike h x → is_new (brought lines h) x ≡ is_new lines x
  unfolding brought
  new-brought [] x u = rw (not-true (alike h x) u)
  new-brought (l ∷ lines) x u = go (alike l h) (new-brought lines x u)
    where
      added : Line
      added = weighing (l.weight +ℤ h.weight) l

      go : (b : Bool) → is_new (brought lines h) x ≡ is_new lines x
          → is_new (cond b (added ∷ lines) (l ∷ brought lines h)) x ≡ (not (alike l x) && is_new lines x)
      go true rest = refl
      go false rest = ap (λ c. not (alike l x) && c) rest

  one-at-once : (lines : List Line) → distinct lines ≡ true
      → brought lines h ≡ map (bring (h ∷ [])) lines ++ keep (is_new lines) (h ∷ [])
  unfolding brought
  one-at-once [] d = refl
  one-at-once (l ∷ lines) d = go (alike l h) refl (one-at-once lines (rest-different l lines d))
    where
      others : List Line
      others = map (bring (h ∷ [])) lines

      with : ℤ → Line
      with z = weighing (l.weight +ℤ z) l

      -- the lines after l are unlike l, and so unlike h
      unchanged : alike l h ≡ true → lines ≡ others
      unchanged e = sym (all-unchanged (h ∷ []) lines (each_same (Unlike l) _ lines
          (λ m u. coefficient-none m (h ∷ [])
          (ap not (alike-back m h ∙ sym (alike-alike l h e m)) ∙ u, tt)) (first-unlike l lines d)))

      go : (b : Bool) → alike l h ≡ b → brought lines h ≡ others ++ keep (is_new lines) (h ∷ [])
          → cond b (with h.weight ∷ lines) (l ∷ brought lines h)
          ≡ with (sum (λ m. m.weight) (cond b (h ∷ []) [])) ∷ (others ++ cond (not b && is_new lines h) (h ∷ []) [])
      go true e rest = ap₂ (λ (z : ℤ) (ls : List Line). with z ∷ ls)
          (sym (+ℤ_idr h.weight)) (unchanged e ∙ sym (append-nil others))
      go false e rest = ap₂ (λ (z : ℤ) (ls : List Line). weighing z l ∷ ls) (sym (+ℤ_idr l.weight)) rest

-- ---- all lines
brought-then : (lines : List Line) (h : Line) (hs : List Line) → distinct lines ≡ true → Each (Unlike h) hs
    → map (bring hs) (brought lines h) ≡ map (bring (h ∷ hs)) lines ++ keep (is_new lines) (h ∷ [])
brought-then lines h hs d u =
    ap (map (bring hs)) (one-at-once h lines d)
    ∙ map-append (bring hs) (map (bring (h ∷ [])) lines) (keep (is_new lines) (h ∷ []))
    ∙ ap₂ ◌++◌
    (map-map (bring hs) (bring (h ∷ [])) lines
    ∙ map_same (λ l. Unit {0}) _ _ lines (λ l t. bring-more h hs l) (each_member _ lines (λ l m. tt)))
    (all-unchanged hs (keep (is_new lines) (h ∷ [])) (each-kept (is_new lines) _ (h ∷ []) (coefficient-none h hs u, tt)))

pub at_once : (lines hs : List Line) → distinct hs ≡ true → distinct lines ≡ true
    → all_brought lines hs ≡ map (bring hs) lines ++ keep (is_new lines) hs
unfolding all_brought
at_once lines [] c d =
    sym (append-nil (map (bring []) lines) ∙ all-unchanged [] lines (each_member _ lines (λ l m. refl)))
at_once lines (h ∷ hs) c d =
    let u = first-unlike h hs c in
    at_once (brought lines h) hs (rest-different h hs c) (different-brought lines h d)
    ∙ ap₂ ◌++◌ (brought-then lines h hs d u) (keep_same (Unlike h) _ (is_new lines) hs (new-brought h lines) u)
    ∙ append_assoc (map (bring (h ∷ hs)) lines) (keep (is_new lines) (h ∷ [])) (keep (is_new lines) hs)
    ∙ ap (λ ls. map (bring (h ∷ hs)) lines ++ ls) (sym (keep_append (is_new lines) (h ∷ []) hs))

pub gathered-at-once : (lines hs : List Line) → every lasting hs ≡ true → distinct hs ≡ true → distinct lines ≡ true
    → gather lines hs ≡ keep lasting (map (bring hs) lines) ++ keep (is_new lines) hs
gathered-at-once lines hs t c d =
    let new : List Line = keep (is_new lines) hs in
    ap (keep lasting) (at_once lines hs c d)
    ∙ keep_append lasting (map (bring hs) lines) new
    ∙ ap (λ ls. keep lasting (map (bring hs) lines) ++ ls)
    (keep_all lasting new (each-kept (is_new lines) _ hs (every-each lasting hs t)))
