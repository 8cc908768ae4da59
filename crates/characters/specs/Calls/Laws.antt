-- Two words of one shape have one character and one character degree (document 02, P6).
use Rattle.std.specs.Prelude.{◌≡◌}
use Rattle.theory.specs.Basics.{ℕ}
use Rattle.theory.specs.ShapeWord.InFront.{SameShape}
use Rattle.characters.specs.Calls.{character_of, shape_character_degree}

module _ (limit : ℕ) {v w : ℕ} (s : SameShape v w) where
  pub character-alike : (c : ℕ) → character_of limit v c ≡ character_of limit w c
  unfolding character_of
  character-alike c = rw (s.first-clear, s.second-clear, s.shapes)

  pub character-degree-alike : shape_character_degree limit v ≡ shape_character_degree limit w
  unfolding shape_character_degree
  character-degree-alike = rw (s.first-clear, s.second-clear, s.shapes)
