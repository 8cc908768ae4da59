-- What is true of every watch: an answer is told by the number and the value that it reads, and kinds 3 to 5 ignore the
-- line number.
--   said w   the answer that reads w
use Rattle.std.specs.Prelude.{◌≡◌, refl, ◌≤◌}
use Rattle.std.proofs.Common.{sym, ◌∙◌, ap, arith}
use Rattle.std.proofs.lemmas.Bool.{lt-leb}
use Rattle.theory.specs.Basics.{ℕ, zero, suc}
use Rattle.pages.specs.declared.Slip.{Slip}
use Rattle.pages.specs.Mode.{Mode, waiting_in}
use Rattle.characters.specs.declared.Watched.{Watched}
use Rattle.characters.specs.declared.Watched.TheVariants.{Whole, Ratio, Refused}
use Rattle.characters.specs.Watch.{Value, whole, quotient, none, reads, shown_in, watch_in}

abbrev pub said : ℕ × Value → Watched
said (k, whole z) = Whole z
said (k, quotient q) = Ratio q
said (k, none) = Refused k

pub said-reads : (a : Watched) → said (reads a) ≡ a
said-reads (Whole z) = refl
said-reads (Ratio q) = refl
said-reads (Refused k) = refl

pub one_answer : (a b : Watched) (w : ℕ × Value) → reads a ≡ w → reads b ≡ w → a ≡ b
one_answer a b w p q = sym (said-reads a) ∙ ap said (p ∙ sym q) ∙ said-reads b

pub line-ignored : (m : Mode) (limit : ℕ) (slip : Slip) (x : m.Lent) (kind i j : ℕ) → 3 ≤ kind
    → watch_in m limit slip x kind i ≡ watch_in m limit slip x kind j
unfolding watch_in shown_in
line-ignored m limit slip x kind i j h = rw (lt-leb kind 2 (omega arith), same kind h)
  where
    same : (kind : ℕ) → 3 ≤ kind
        → shown_in m slip (waiting_in m slip x) i kind ≡ shown_in m slip (waiting_in m slip x) j kind
    same zero h = absurd (omega arith)
    same (suc zero) h = absurd (omega arith)
    same (suc (suc zero)) h = absurd (omega arith)
    same (suc (suc (suc zero))) h = refl
    same (suc (suc (suc (suc zero)))) h = refl
    same (suc (suc (suc (suc (suc zero))))) h = refl
    same (suc (suc (suc (suc (suc (suc kind)))))) h = refl
