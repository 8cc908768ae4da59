-- The section of a degree counts its partitions.
use Rattle.std.proofs.Common.{◌≡◌, ◌≤◌, ap, arith, sym, ◌∙◌}
use Rattle.std.specs.declared.result.Result.{Result}
use Rattle.std.specs.declared.result.Result.TheVariants.{Ok}
use Rattle.words.specs.declared.refusal.Refusal.{Refusal}
use Rattle.theory.specs.Basics.{ℕ, length}
use Rattle.theory.specs.Listing.{listing}
use Rattle.theory.specs.Limits.{degree_limit}
use Rattle.listing.specs.Calls.{SectionAnswer, section_told, section_of}
use Rattle.listing.specs.declared.Span.{Span}
use Rattle.listing.proofs.Indexes.{section-found, section-given}
use Rattle.tabletext.specs.Table.Room.{listing-few}
use Rattle.tabletext.proofs.table.count.Goals as goal

counted : (n : ℕ) (s : Span) (r : Result Span Refusal) → n ≤ degree_limit → r ≡ Ok s
    → section_told r ≡ section_of degree_limit n → s.count ≡ length (listing n)
counted n s r small is e =
    ap (λ (a : SectionAnswer). a.count)
    (section-given degree_limit n (section_told (Ok s)) (sym (ap section_told is) ∙ e) small)

pub unwrap-requires : goal.unwrap-requires
unwrap-requires c = section-found degree_limit _ c.section.result c.section.ensures c.requires

pub overflow_cast-result : goal.overflow_cast-result
overflow_cast-result c =
    omega (
      arith,
      counted c.args.degree _ c.section.result c.requires c.unwrap.ensures c.section.ensures,
      listing-few c.args.degree c.requires,
    )

pub returns : goal.returns
returns c = counted c.args.degree _ c.section.result c.requires c.unwrap.ensures c.section.ensures
