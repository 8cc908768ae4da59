-- A ratio is the true quotient, rounded once (document 01, "in one 64-bit float division, both numbers carried over
-- without loss"). Of the library: round f minus a b is a / b, with a minus or a plus, rounded to the format f.
--   negative z     z is below 0
--   ratio_limit     18: the largest degree whose factorial is at most 2^53
--   Exact l        both numbers of the ratio of the line l are carried over without loss, and it is divided by no zero
use Rattle.std.specs.Prelude.{◌≡◌, refl, ◌≤◌, ◌<◌, T, Float, ◌*◌, ◌^◌}
use Rattle.std.proofs.Common.{sym, ◌∙◌, ap, le_trans, one-mul, mul-one, mul_assoc, mul_comm, mul-pos, arith, le→leb, lt→ltb, ne_eqb}
use Rattle.std.proofs.Math.Bridge.{le_by_compare, IsLe}
use Rattle.std.specs.Int.Signed.{non_neg}
use Rattle.std.specs.Float.{nan, inf, fin, Format, binary64}
use Rattle.std.specs.Float.Ieee.{up, down, unlike, round, of_int, div, in_float}
use Rattle.std.specs.Float.Ieee.Exact.{HasValue}
use Rattle.std.specs.Float.Ieee.Back.{round_whole}
use Rattle.std.specs.Float.Ieee.Scale.{round_same}
use Rattle.std.specs.Float.Ieee.Fits.{down_pos}
use Rattle.theory.specs.Basics.{Bool, true, false, not, ℕ, suc, ℤ, pos, negsuc, nat_abs}
use Rattle.theory.specs.Character.{character_degree}
use Rattle.theory.specs.ShapeWord.{shape_of}
use Rattle.theory.specs.Bounds.{factorial}
use Rattle.theory.proofs.Bounds.Laws.{factorial-rises}
use Rattle.theory.specs.Hooks.Degrees.{Positive}
use Rattle.theory.proofs.Hooks.Degrees.{degree-positive, degree-bounded}
use Rattle.pages.specs.Line.{Line, line_degree, signed_character}
use Rattle.pages.specs.Page.{line_of}
use Rattle.pages.specs.Page.Words.{unit-weight}
use Rattle.pages.specs.Sound.{line_value}
use Rattle.pages.specs.Sound.Laws.{SoundLine}
use Rattle.pages.specs.Sound.Bounds.{line-bounded}
use Rattle.characters.specs.Watch.{ratio}

abbrev pub negative : ℤ → Bool
negative z = not (non_neg z)

-- ---- division of floats that are whole numbers
cross : (a e d b : ℕ) → a * e * d * b ≡ a * (b * d * e)
cross a e d b =
    mul_assoc (a * e) d b ∙ mul_assoc a e (d * b)
    ∙ ap (λ (z : ℕ). a * z) (mul_comm e (d * b) ∙ ap (λ (z : ℕ). z * e) (mul_comm d b))

-- x is a and y is b, so x / y is a / b, rounded
divided : (f : Format) (x y : Float) (s t : Bool) (a b : ℕ) → HasValue x s a 1 → HasValue y t b 1 → 0 < b
    → div f x y ≡ round f (unlike s t) a b
unfolding div
divided f nan y s t a b h k p = absurd h
divided f (inf u) y s t a b h k p = absurd h
divided f (fin u m e) nan s t a b h k p = absurd k
divided f (fin u m e) (inf v) s t a b h k p = absurd k
divided f (fin u m e) (fin v n d) s t a b h k p =
    let x : m * up e ≡ a * down e = sym (mul-one (m * up e)) ∙ h.1 in
    let y : n * up d ≡ b * down d = sym (mul-one (n * up d)) ∙ k.1 in
    let q : 0 < n * up d = rw y (mul-pos p (down_pos d)) in
    let some : n ≡ 0 → ⊥ = λ z. omega (arith, rw z at q) in
    rw (ne_eqb n 0 some, h.0, k.0)
    (round_same f (unlike s t) (m * up e * down d) (n * up d * down e) a b (mul-pos q (down_pos e)) p
    (ap (λ (z : ℕ). z * down d * b) x ∙ cross a (down e) (down d) b ∙ ap (λ (z : ℕ). a * (z * down e)) (sym y)))

-- ---- numbers carried over without loss
carried : (z : ℤ) → nat_abs z ≤ 2 ^ 53 → HasValue (of_int binary64 z) (negative z) (nat_abs z) 1
unfolding of_int
carried (pos n) h = round_whole binary64 false n h
carried (negsuc n) h = round_whole binary64 true (suc n) h

-- what a cast asks
pub in-float : (z : ℤ) → nat_abs z ≤ 2 ^ 53 → T (in_float binary64 z)
unfolding in_float
in-float (pos n) h = le→leb n (2 ^ 53) h
in-float (negsuc n) h = lt→ltb n (2 ^ 53) h

-- ---- the ratio of a line
abbrev pub ratio_limit : ℕ
ratio_limit = 18

pub factorial-carried : (d : ℕ) → d ≤ ratio_limit → factorial d ≤ 2 ^ 53
unfolding factorial IsLe
factorial-carried d h =
    le_trans (factorial-rises d ratio_limit h) (le_by_compare (factorial ratio_limit) (2 ^ 53) tt)

unlike-plus : (s : Bool) → unlike s false ≡ s
unlike-plus true = refl
unlike-plus false = refl

-- a whole number by one of 1 or more
pub divided-once : (z d : ℤ) → nat_abs z ≤ 2 ^ 53 → nat_abs d ≤ 2 ^ 53 → Positive d
    → div binary64 (of_int binary64 z) (of_int binary64 d) ≡ round binary64 (negative z) (nat_abs z) (nat_abs d)
divided-once z d h k p =
    rw p.is
    (divided binary64 _ _ (negative z) false (nat_abs z) (suc p.before) (carried z h)
    (carried (pos (suc p.before)) (rw p.is at k)) (omega arith)
    ∙ ap (λ s. round binary64 s (nat_abs z) (suc p.before)) (unlike-plus (negative z)))

pub record Exact (l : Line) : Type 0 where
  pub character-fits : nat_abs (signed_character l) ≤ 2 ^ 53
  pub degree-fits : nat_abs (character_degree (shape_of l.shape)) ≤ 2 ^ 53
  pub divides : Positive (character_degree (shape_of l.shape))

-- a line of weight 1 or -1
module _ {n : ℕ} {l : Line} (s : SoundLine n l) (unit : nat_abs l.weight ≡ 1) (small : line_degree l ≤ ratio_limit)
  where
    pub line-exact : Exact l
    line-exact =
        let value : line_value l ≡ factorial (line_degree l) = rw unit (one-mul (factorial (line_degree l))) in
        record {
          character-fits = omega (arith, line-bounded s, factorial-carried (line_degree l) small);
          degree-fits = le_trans (degree-bounded l.shape) (factorial-carried (line_degree l) small);
          divides = degree-positive l.shape;
        }

    pub ratio-rounded : ratio l ≡ round binary64 (negative (signed_character l)) (nat_abs (signed_character l))
        (nat_abs (character_degree (shape_of l.shape)))
    unfolding ratio
    ratio-rounded =
        divided-once (signed_character l) (character_degree (shape_of l.shape)) line-exact.character-fits
        line-exact.degree-fits line-exact.divides

-- and so of a page's word
pub word-ratio-rounded : {n : ℕ} (x : ℕ) → SoundLine n (line_of x) → line_degree (line_of x) ≤ ratio_limit
    → ratio (line_of x) ≡ round binary64 (negative (signed_character (line_of x))) (nat_abs (signed_character (line_of x)))
    (nat_abs (character_degree (shape_of (line_of x).shape)))
word-ratio-rounded x s small = ratio-rounded s (unit-weight x) small
