-- Texts set apart by commas, one after the other.
--   separator i   what stands in front of text i of a list: a comma, but nothing in front of the first
use Rattle.std.specs.Prelude.{◌≡◌, ◌≤◌, ◌<◌, ◌∷◌, ◌++◌, ◌*◌}
use Rattle.std.proofs.Common.{sym, append_assoc, append-nil, arith, length-append}
use Rattle.theory.specs.Basics.{List, [], ℕ, zero, suc, length, get_or, take, Each}
use Rattle.theory.proofs.Basics.Laws.{each_same, joined-next, joined_length}
use Rattle.text.specs.Text.{Text, ascii, commas}

abbrev pub separator : ℕ → Text
separator zero = []
separator (suc i) = ascii ","

pub commas-next : (ts : List Text) (i : ℕ) → i < length ts
    → commas (take (suc i) ts) ≡ commas (take i ts) ++ (separator i ++ get_or ts i [])
unfolding commas
commas-next [] i h = absurd (omega arith)
commas-next (t ∷ ts) zero h = append-nil t
commas-next (t ∷ ts) (suc i) h =
    rw (joined-next (λ u. ascii "," ++ u) ts [] i (omega arith)) (sym (append_assoc t _ _))

pub commas-length : (k : ℕ) (ts : List Text) → Each (λ t. length t ≤ k) ts → length (commas ts) ≤ length ts * suc k
unfolding commas
commas-length k [] e = omega arith
commas-length k (t ∷ ts) e =
    let f : Each (λ t. length (ascii "," ++ t) ≤ suc k) ts = each_same _ _ ts (λ t h. omega arith) e.1 in
    simp length-append (omega (arith, e.0, joined_length (λ u. ascii "," ++ u) (suc k) ts f))
