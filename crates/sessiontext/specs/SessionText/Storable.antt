-- The sessions that a text can hold: every sound one, and more, since a text says nothing of soundness.
--   StorableLineBy fa limit l      the line l has a weight that comes back, and good words within the limit
--   Forward z                      z is not negative, and a signed number of 64 bits holds it
--   StorableBy fa limit slip lines a slip with such lines, its own words and numbers within their limits
--   StorableLine, Storable         these by the plain form
use Rattle.std.specs.Prelude.{◌≡◌, ◌≤◌, ◌<◌, ◌∷◌, ◌^◌}
use Rattle.std.proofs.Common.{arith}
use Rattle.std.specs.Int.Signed.{non_neg}
use Rattle.theory.specs.Basics.{true, List, [], length, ℕ, ℤ, nat_abs, Each}
use Rattle.theory.proofs.Basics.Laws.{each_same, each_both}
use Rattle.theory.proofs.ShapeWord.Good.{good-shape}
use Rattle.theory.proofs.ClassWord.Laws.{good-class}
use Rattle.theory.specs.Bounds.{factorial, S}
use Rattle.theory.proofs.Bounds.Laws.{factorial-rises, S-rises}
use Rattle.theory.specs.Limits.{degree_limit}
use Rattle.theory.specs.Refusals.{first_of}
use Rattle.theory.specs.Refusals.Laws.{Within, WithinClass}
use Rattle.pages.specs.Line.{Line}
use Rattle.pages.specs.declared.Slip.{Slip}
use Rattle.pages.specs.Mode.{waiting_in}
use Rattle.pages.specs.Sound.Laws.{SoundLine, SoundIn, asked, values}
use Rattle.pages.specs.Sound.Bounds.{weight-counted}
use Rattle.sessiontext.specs.SessionText.{held, Form}
use Rattle.sessiontext.specs.SessionText.Faithful.{Faithful}
use Rattle.sessiontext.specs.SessionText.Faithful.Plain.{plain-faithful}
use Rattle.sessiontext.specs.SessionText.Faithful.Gathered.{held_small}

pub record StorableLineBy {f : Form} (fa : Faithful f) (limit : ℕ) (l : Line) : Type 0 where
  pub kept : fa.Kept l.weight
  pub shape : Within limit l.shape
  pub class : WithinClass limit l.class

pub record Forward (z : ℤ) : Type 0 where
  pub forward : non_neg z ≡ true
  pub small : nat_abs z < 2 ^ 63

pub record StorableBy {f : Form} (fa : Faithful f) (limit : ℕ) (slip : Slip) (lines : List Line) : Type 0 where
  pub shape : Within limit slip.shape
  pub class : WithinClass limit slip.class
  pub settled : held slip.settled ≡ true
  pub steps : Forward slip.steps
  pub mode : slip.mode ≡ f.mode.number
  pub count : slip.lines ≡ length lines
  pub few : length lines < 2 ^ 64
  pub each : Each (StorableLineBy fa limit) lines

abbrev pub StorableLine : ℕ → Line → Type 0
StorableLine limit l = StorableLineBy plain-faithful limit l

abbrev pub Storable : ℕ → Slip → List Line → Type 0
Storable limit slip lines = StorableBy plain-faithful limit slip lines

-- no weight is larger than what all lines count
weights-small : (bound : ℕ) (lines : List Line) → values lines ≤ bound → Each (λ l. nat_abs l.weight ≤ bound) lines
weights-small bound [] h = tt
weights-small bound (l ∷ lines) h =
    (omega (arith, weight-counted l), weights-small bound lines (omega arith))

-- a sound session
module _ {f : Form} (fa : Faithful f) {slip : Slip} {x : f.mode.Lent} (s : SoundIn f.mode degree_limit slip x)
    (lent : first_of (f.mode.lent_checks x) ≡ 0) where
  abbrev lines : List Line
  lines = waiting_in f.mode slip x

  small : asked slip ≤ degree_limit
  small = s.lines.words.shape.small

  n!-small : factorial (asked slip) < 2 ^ 63
  unfolding factorial
  n!-small = omega (arith, factorial-rises (asked slip) 16 small)

  line : (l : Line) → SoundLine (asked slip) l × (fa.law.Written l × (nat_abs l.weight ≤ factorial (asked slip)))
      → StorableLineBy fa degree_limit l
  line l x = record {
    kept = fa.written-kept l x.1.0 (omega (arith, x.1.1, n!-small));
    shape = record { good = good-shape l.shape x.0.shape; small = omega (arith, x.0.within, small) };
    class = record {
      good = good-class l.class x.0.class;
      small = omega (arith, x.0.degrees, x.0.within, small);
    };
  }

  pub sound-storable : StorableBy fa degree_limit slip lines
  unfolding S
  sound-storable =
      let count = fa.law.waits-length slip.lines x lent s.fit in
      let weights = weights-small (factorial (asked slip)) lines (omega (arith, s.lines.value)) in
      record {
        shape = s.lines.words.shape;
        class = s.lines.words.class;
        settled = held_small slip.settled (omega (arith, s.lines.value, n!-small));
        steps = record {
          forward = s.lines.forward;
          small = omega (arith, s.lines.span, S-rises (asked slip) 16 small);
        };
        mode = s.mode;
        count = omega (arith, count);
        few = omega (arith, count, s.fit, fa.law.short x lent);
        each =
            each_same _ (StorableLineBy fa degree_limit) lines line
            (each_both _ _ lines s.lines.each
            (each_both _ _ lines (fa.law.written-waits slip.lines x) weights));
      }
