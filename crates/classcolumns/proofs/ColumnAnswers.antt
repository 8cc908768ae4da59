-- The call for a column: from what the calls on the class word and the tables answer to what is promised.
--   ClassGiven limit w d   what is known of the class word w where d is given as its degree
use mathlib.Core.Path.{◌≡◌, refl, sym, ◌∙◌, ap}
use Prim.Native.Nat.{◌≤◌, ◌<◌}
use native.Mathlib.Omega.{arith}
use Rattle.theory.specs.Basics.{List, ℕ, ℤ, pos, nat_abs, length}
use Rattle.theory.specs.Partition.{degree}
use Rattle.theory.specs.Digits.{digits, width}
use Rattle.theory.specs.ClassWord.{class_of}
use Rattle.theory.proofs.ClassWord.Laws.{parts-no-zero}
use Rattle.theory.specs.Listing.{listing}
use Rattle.theory.specs.Column.{column}
use Rattle.theory.proofs.Column.Laws.{column-length}
use Rattle.theory.specs.Bounds.Laws.{largest_limit}
use Rattle.theory.specs.Refusals.{first_of, class_checks}
use Rattle.theory.proofs.Refusals.Laws.{within-class}
use Rattle.words.specs.Answers.{Outcome, number_answer, count_answer, at_front, CountAnswer, NumberAnswer}
use Rattle.words.specs.Answers.Laws.{numbered-refusal}
use Rattle.words.specs.Calls.{class_parts_into, class_degree}
use Rattle.words.proofs.Answers.{column-refused, column-short, column-filled}
use Rattle.words.proofs.Callers.{FrontGiven, number-given-by}
use Rattle.std.specs.declared.result.Result.TheVariants.{Ok}
use Rattle.listing.specs.declared.Span.{Span}
use Rattle.listing.specs.Calls.{SectionAnswer, section_told, section_of}
use Rattle.listing.proofs.Indexes.{section-given}
use Rattle.listing.proofs.Ranks.{blank, class-refusal, parts-of-class}
use Rattle.classcolumns.specs.Calls.{column_into}
use Rattle.classcolumns.specs.Private.Columns.{Cycles}

pub refused-class : (limit w : ℕ) (a : NumberAnswer) → a ≡ class_degree limit w → (values : List ℤ)
    → (a.refused ≡ 0 → ⊥) → Outcome (column_into limit w values) (count_answer a.refused 0) values
unfolding column_into class_degree
refused-class limit w a e values =
    column-refused (class_checks limit w) 14 (column (class_of w)) values a.refused
    (numbered-refusal (class_checks limit w) _ a e)

pub record ClassGiven (limit w d : ℕ) : Type 0 where
  pub none : first_of (class_checks limit w) ≡ 0
  pub cycles : Cycles limit (class_of w)
  pub degree : d ≡ degree (class_of w)
  pub small : d ≤ limit

pub class-given : {limit w d : ℕ} → number_answer 0 (pos d) ≡ class_degree limit w → ClassGiven limit w d
unfolding class_degree
class-given {limit} {w} {d} e =
    let given = number-given-by (class_checks limit w) _ (number_answer 0 (pos d)) e refl in
    let small = (within-class limit w given.0).small in
    let same : d ≡ degree (class_of w) = ap (λ (x : NumberAnswer). nat_abs x.number) given.1 in
    record {
      none = given.0;
      cycles = record { no_zero = parts-no-zero 0 (digits width w); small = small };
      degree = same;
      small = omega (arith, same, small);
    }

module _ {limit w d : ℕ} (given : ClassGiven limit w d) (values : List ℤ) where
  abbrev count : ℕ
  count = length (listing (degree (class_of w)))

  -- how many values a column of this degree has
  pub counted : {s : Span} → section_told (Ok s) ≡ section_of limit d → s.count ≡ count
  counted e =
      ap (λ (x : SectionAnswer). x.count) (section-given limit d _ e given.small)
      ∙ ap (λ (n : ℕ). length (listing n)) given.degree

  pub short-column : length values < count → Outcome (column_into limit w values) (count_answer 14 0) values
  unfolding column_into
  short-column l =
      column-short (class_checks limit w) 14 (column (class_of w)) values refl given.none (λ z. omega arith)
      (rw (column-length (class_of w)) l)

  pub filled-column : count ≤ length values → (k : ℕ) (after : List ℤ) → k ≡ count
      → after ≡ at_front (column (class_of w)) values → Outcome (column_into limit w values) (count_answer 0 k) after
  unfolding column_into
  filled-column l k after ek ea =
      let long = column-length (class_of w) in
      column-filled (class_checks limit w) 14 (column (class_of w)) values refl given.none k after (rw long l)
      (ek ∙ sym long) ea

-- the parts of the class word, as the call on it writes them
pub parts-read : {limit w d : ℕ} → limit ≤ largest_limit → ClassGiven limit w d → (k : CountAnswer)
    (parts : List ℕ) → Outcome (class_parts_into limit w (blank limit)) k parts → FrontGiven (class_of w) k parts
parts-read {limit} {w} room given k parts o =
    parts-of-class limit room w k parts o (class-refusal limit room w k parts o ∙ given.none)
