-- Examples to prove (document 01, "Examples to prove", E1 to E13; document 02, P6, of E4): one table, and one theorem,
-- by computation.
--   on-sevens s c            the opening of s on c, on a page of two words that hold 7
--   seen cycle outcome       a preview of line 0, on a strip of two words that hold 7
--   strike cycle outcome     this preview and its commit, the latest slip and page handed on
--   after s c z l n page     accepted: settled z, l lines, n steps, and this page
use Rattle.std.specs.Prelude.{◌≡◌, ◌∷◌}
use Rattle.theory.specs.Basics.{List, [], replicate, ℕ, ℤ, pos, negsuc}
use Rattle.theory.specs.Character.{◌on◌}
use Rattle.theory.specs.ShapeWord.{shape_word, shape_of}
use Rattle.theory.specs.ClassWord.{class_word, class_of}
use Rattle.theory.specs.Refusals.{first_of, shape_checks, class_checks}
use Rattle.theory.specs.Limits.{degree_limit}
use Rattle.words.specs.Answers.{CountAnswer}
use Rattle.words.specs.Answers.{count_answer, good_answer}
use Rattle.words.specs.Calls.{good_shape_word}
use Rattle.pages.specs.Page.{slip_of}
use Rattle.sessions.specs.Opening.{Handed}
use Rattle.sessions.specs.Opening.{handed, opening}
use Rattle.sessions.specs.Step.{preview, commit}
pub mod Proved

abbrev on-sevens : List ℕ → List ℕ → Handed × List ℕ
on-sevens s c = opening degree_limit (shape_word s) (class_word c) (7 ∷ 7 ∷ [])

abbrev seen : ℕ → Handed × List ℕ → CountAnswer × List ℕ
seen cycle o = preview degree_limit o.0.slip o.1 0 cycle (7 ∷ 7 ∷ [])

abbrev strike : ℕ → Handed × List ℕ → Handed × List ℕ
strike cycle o = commit degree_limit o.0.slip o.1 0 cycle (seen cycle o).1

abbrev after : List ℕ → List ℕ → ℤ → ℕ → ℤ → List ℕ → Handed × List ℕ
after s c settled lines steps page = (handed 0 (slip_of (shape_word s) (class_word c) settled lines steps 0), page)

abbrev parts-3-2 : List ℕ
parts-3-2 = 3 ∷ 2 ∷ []

abbrev parts-2-1 : List ℕ
parts-2-1 = 2 ∷ 1 ∷ []

pub record Examples : Type 0 where
  pub E1 : shape_word parts-3-2 ≡ 0x2C000000
  pub E2 : shape_word (16 ∷ []) ≡ 0x3FFFC000
  pub E3 : shape_word (replicate 16 1) ≡ 0x00004000
  pub E4 : first_of (shape_checks degree_limit 0x3FFFE000) ≡ 2
  pub E4-row : shape_of 0x3FFFE000 ≡ 17 ∷ []
  pub E4-empty : shape_of 0x40000000 ≡ []
  pub E4-dropped : good_shape_word degree_limit 0x40000000 ≡ good_answer 0 (shape_word []) 1
  pub E5 : class_word (5 ∷ 2 ∷ 2 ∷ 1 ∷ 1 ∷ 1 ∷ []) ≡ 0x05780000
  pub E6 : first_of (class_checks degree_limit 0x50000000) ∷ first_of (class_checks degree_limit 0x00004000) ∷ [] ≡ 3 ∷ 4 ∷ []
  pub E6-parts : class_of 0x50000000 ≡ 1 ∷ 2 ∷ []
  pub E7 : parts-3-2 on parts-3-2 ≡ pos 1
  pub E8 : parts-3-2 on (4 ∷ 1 ∷ []) ≡ negsuc 0
  pub E9 : parts-3-2 on (5 ∷ []) ≡ pos 0
  pub E10 : parts-3-2 on replicate 5 1 ≡ pos 5
  pub E11 : on-sevens parts-3-2 parts-3-2
      ≡ after parts-3-2 parts-3-2 (pos 0) 1 (pos 0) (0x2C00000014000000 ∷ 0 ∷ [])
  pub E11-seen : seen 3 (on-sevens parts-3-2 parts-3-2) ≡ (count_answer 0 1, 0x9000000020000000 ∷ 7 ∷ [])
  pub E11-3 : strike 3 (on-sevens parts-3-2 parts-3-2)
      ≡ after parts-3-2 parts-3-2 (pos 0) 1 (pos 1) (0x9000000020000000 ∷ 0 ∷ [])
  pub E11-3-2 : strike 2 (strike 3 (on-sevens parts-3-2 parts-3-2))
      ≡ after parts-3-2 parts-3-2 (pos 1) 0 (pos 2) (0 ∷ 0 ∷ [])
  pub E11-3-seen : seen 2 (strike 3 (on-sevens parts-3-2 parts-3-2)) ≡ (count_answer 0 0, 7 ∷ 7 ∷ [])
  pub E12-seen : seen 2 (on-sevens parts-3-2 parts-3-2) ≡ (count_answer 0 1, 0x3800000010000000 ∷ 7 ∷ [])
  pub E12-2 : strike 2 (on-sevens parts-3-2 parts-3-2)
      ≡ after parts-3-2 parts-3-2 (pos 0) 1 (pos 1) (0x3800000010000000 ∷ 0 ∷ [])
  pub E12-2-3 : strike 3 (strike 2 (on-sevens parts-3-2 parts-3-2))
      ≡ after parts-3-2 parts-3-2 (pos 1) 0 (pos 2) (0 ∷ 0 ∷ [])
  pub E13-seen : seen 2 (on-sevens parts-2-1 parts-2-1) ≡ (count_answer 0 0, 7 ∷ 7 ∷ [])
  pub E13 : strike 2 (on-sevens parts-2-1 parts-2-1)
      ≡ after parts-2-1 parts-2-1 (pos 0) 0 (pos 1) (0 ∷ 0 ∷ [])
