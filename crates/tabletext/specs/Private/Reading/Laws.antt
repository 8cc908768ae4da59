-- What is read is what the input asks for: the number that its digits give is the only one whose line it can be.
use Rattle.std.specs.Prelude.{◌≡◌, refl, ◌<◌, min, ◌∷◌, Option, Some, None, slice_get}
use Rattle.std.proofs.Common.{sym, ◌∙◌, ap, ⊎_elim, arith}
use Rattle.theory.specs.Basics.{List, [], get_or, ℕ}
use Rattle.text.specs.Text.{Text, ascii}
use Rattle.text.specs.Wrote.{most}
use Rattle.textreading.specs.Reading.{is_digit, number_in}
use Rattle.textreading.specs.Reading.Numbers.{number-back}
use Rattle.textreading.specs.Reading.Bytes.{each-not}
use Rattle.tabletext.specs.Table.{asked}
use Rattle.tabletext.specs.Table.Asked.{asking, asked-for, one-or-none}
use Rattle.tabletext.specs.Private.Reading.{none}

number-asked : (n : ℕ) → n < 100 → number_in (asking n) ≡ n
number-asked n h =
    number-back (ascii "degree=") (ascii "\n") (each-not is_digit (ascii "degree=") refl) (refl, tt) n (omega arith)

-- ---- compared with its line
module _ (input : Text) (n : ℕ) (e : n ≡ min (number_in input) most) where
  pub read_asked : n < 100 → input ≡ asking n → asked input ≡ n ∷ []
  read_asked h l = ap asked l ∙ asked-for n h

  only : (m : ℕ) → m < 100 → input ≡ asking m → n ≡ m
  only m h l = omega (arith, ap number_in l ∙ number-asked m h)

  pub read-nothing : (n < 100 → input ≡ asking n → ⊥) → asked input ≡ []
  read-nothing differs =
      ⊎_elim (λ a. a)
      (λ w.
      let o = only w.0 w.1 w.2 in
      absurd (differs (omega (arith, w.1)) (w.2 ∙ ap asking (sym o))))
      (one-or-none input)

-- ---- what was read
pub no_number : (input : Text) → slice_get (asked input) 0 ≡ None → asked input ≡ []
no_number input e = go (asked input) e
  where
    go : (ns : List ℕ) → slice_get ns 0 ≡ None → ns ≡ []
    go [] e = refl
    go (n ∷ ns) e = cc

pub one_number : (input : Text) (n : ℕ) → slice_get (asked input) 0 ≡ Some n → asked input ≡ n ∷ []
one_number input n e =
    ⊎_elim (λ none. absurd (given (sym (ap first none) ∙ e)))
    (λ w.
    let one = ap asked w.2 ∙ asked-for w.0 w.1 in
    one ∙ ap (λ (m : ℕ). m ∷ []) (same (sym (ap first one) ∙ e)))
    (one-or-none input)
  where
    first : List ℕ → Option ℕ
    first ns = slice_get ns 0

    given : None ≡ Some n → ⊥
    given e = cc

    same : {m : ℕ} → Some m ≡ Some n → m ≡ n
    same e = cc

-- the same of a number that stands for none
module _ (input : Text) (r : ℕ) (e : r ≡ get_or (asked input) 0 none) where
  abbrev first : List ℕ → ℕ
  first ns = get_or ns 0 none

  pub nothing_read : r ≡ none → asked input ≡ []
  nothing_read z =
      ⊎_elim (λ h. h)
      (λ w. absurd (omega (arith, w.1, ap first (ap asked w.2 ∙ asked-for w.0 w.1))))
      (one-or-none input)

  pub number_read : (r ≡ none → ⊥) → asked input ≡ r ∷ []
  number_read n =
      ⊎_elim (λ h. absurd (n (e ∙ ap first h)))
      (λ w.
      let h = ap asked w.2 ∙ asked-for w.0 w.1 in
      h ∙ ap (λ (m : ℕ). m ∷ []) (sym (e ∙ ap first h)))
      (one-or-none input)
