-- What the theorems about texts ask of a form: a weight that it keeps comes back from its text. Both forms have it
-- (Faithful/Plain, Faithful/Gathered).
--   Faithful f    the laws of the form f; Kept z, that the weight z comes back; weight_room, how many bytes are enough
--                 for the text of such a weight
use Rattle.std.specs.Prelude.{◌≡◌, ◌≤◌, ◌<◌, ◌++◌, ◌^◌}
use Rattle.theory.specs.Basics.{true, length, ℕ, ℤ, nat_abs, joined, Each}
use Rattle.text.specs.Text.{Text, ascii}
use Rattle.textreading.specs.Reading.Bytes.{Within}
use Rattle.textreading.proofs.Reading.Lines as lines-of-text
use Rattle.pages.specs.Line.{Line}
use Rattle.pages.specs.Lawful.{Lawful}
use Rattle.sessiontext.specs.SessionText.{Form}
pub mod Plain
pub mod Gathered

pub record Faithful (f : Form) : Type 1 where
  pub law : Lawful f.mode
  -- ---- lines in front
  pub front-lines : Each lines-of-text.Line f.front
  pub front-short : length (joined (λ t. t) f.front) ≤ 14
  -- ---- weights
  pub Kept : ℤ → Type 0
  pub kept-fits : (z : ℤ) → Kept z → f.fits z ≡ true
  pub fits_kept : (t : Text) → f.fits (f.weight_in t) ≡ true → Kept (f.weight_in t)
  pub weight-back : (z : ℤ) → Kept z → f.weight_in (ascii "line=" ++ f.weight_text z) ≡ z
  pub weight-within : (z : ℤ) → Within 43 57 (f.weight_text z)
  pub weight_room : ℕ
  pub weight-short : (z : ℤ) → Kept z → length (f.weight_text z) ≤ weight_room
  -- ---- waiting lines
  pub kept-written : (l : Line) → Kept l.weight → l.shape < 2 ^ 31 → l.class < 2 ^ 32 → law.Written l
  pub written-kept : (l : Line) → law.Written l → nat_abs l.weight < 2 ^ 63 → Kept l.weight
