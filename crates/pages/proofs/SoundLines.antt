-- Sound lines, as the code meets them: from the degrees of a line's two words to its own.
use mathlib.Core.Path.{◌≡◌, refl, sym, ◌∙◌}
use Prim.Native.Nat.{◌≤◌, ◌<◌}
use native.Mathlib.Decide.{ℕ_discrete}
use native.Mathlib.Omega.{arith}
use Rattle.theory.specs.Basics.{Bool, true, false, cond, ℕ}
use Rattle.theory.proofs.ShapeWord.Good.{good-shape, shape-good}
use Rattle.theory.proofs.ClassWord.Laws.{good-class, class-good}
use Rattle.theory.specs.Refusals.Laws.{Within, WithinClass}
use Rattle.pages.specs.Line.{Line, line_degree}
use Rattle.pages.specs.Sound.{sound_line}
use Rattle.pages.specs.Sound.Laws.{SoundLine, sound-line, line-sound}
use Rattle.pages.specs.declared.degrees.Kind.TheVariants.{Shape, Class}
use Rattle.pages.specs.Private.Degrees.{sound_degree, word_degree}
use Rattle.pages.proofs.WordDegrees.{shape-degree-is, class-degree-is, shape-degree-some, class-degree-some}

-- ---- the degree
module _ (n : ℕ) (l : Line) where
  sound-degree : SoundLine n l → sound_degree n l ≡ line_degree l
  unfolding sound_degree
  sound-degree s = rw (line-sound s)

  no-degree : (SoundLine n l → ⊥) → sound_degree n l ≡ 0
  unfolding sound_degree
  no-degree bad = go (sound_line n l) refl
    where
      go : (b : Bool) → sound_line n l ≡ b → cond b (line_degree l) 0 ≡ 0
      go true e = absurd (bad (sound-line n l e))
      go false e = refl

  -- the degrees of its two words
  module _ (limit : ℕ) (small : n ≤ limit) (d e : ℕ) (of-shape : d ≡ word_degree limit Shape l.shape)
      (of-class : e ≡ word_degree limit Class l.class) where
    both-are : SoundLine n l → (d ≡ line_degree l) × (e ≡ line_degree l)
    both-are s =
        let shape : Within limit l.shape = record {
          good = good-shape l.shape s.shape;
          small = omega (arith, s.within);
        } in
        let class : WithinClass limit l.class = record {
          good = good-class l.class s.class;
          small = omega (arith, s.within, s.degrees);
        } in
        (of-shape ∙ shape-degree-is shape, of-class ∙ class-degree-is class ∙ sym s.degrees)

    pub degree-above : n < d → 0 ≡ sound_degree n l
    degree-above above = sym (no-degree (λ s. omega (arith, (both-are s).0, s.within)))

    pub degrees-differ : (d ≡ e → ⊥) → 0 ≡ sound_degree n l
    degrees-differ differ = sym (no-degree (λ s. differ ((both-are s).0 ∙ sym (both-are s).1)))

    pub degree-within : d ≤ n → d ≡ e → d ≡ sound_degree n l
    degree-within within same = elim (ℕ_discrete d 0) [
      | yes z ↦ z ∙ sym (no-degree (λ s. omega (arith, (both-are s).0, s.some)))
      | no some ↦
          let s = shape-degree-some limit l.shape (λ z. some (of-shape ∙ z)) in
          let c = class-degree-some limit l.class (λ z. some (same ∙ of-class ∙ z)) in
          let d-is : d ≡ line_degree l = of-shape ∙ shape-degree-is s in
          let e-is = of-class ∙ class-degree-is c in
          d-is ∙ sym (sound-degree (record {
            shape = shape-good s.good;
            class = class-good c.good;
            degrees = sym d-is ∙ same ∙ e-is;
            some = omega arith;
            within = omega arith;
          }))
    ]
