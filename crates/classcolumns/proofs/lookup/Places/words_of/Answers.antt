-- The section of the degree has its words.
use Rattle.std.proofs.Common.{◌≡◌, ◌≤◌, ap, arith}
use Rattle.theory.specs.Basics.{List, length, ℕ}
use Rattle.theory.specs.Limits.{degree_limit}
use Rattle.std.specs.declared.result.Result.{Result}
use Rattle.std.specs.declared.result.Result.TheVariants.{Ok}
use Rattle.words.specs.declared.refusal.Refusal.{Refusal}
use Rattle.listing.specs.declared.Span.{Span}
use Rattle.listing.specs.Calls.{SectionAnswer, section_told, section_of, words_within}
use Rattle.listing.proofs.Indexes.{section-given, section-found, words-counted}
use Rattle.classcolumns.proofs.Sections.{Section, section-words}
use Rattle.classcolumns.proofs.lookup.Places.words_of.Goals as goal

section : (words : List ℕ) (n : ℕ) {r : Result Span Refusal} {s : Span} → words ≡ words_within degree_limit
    → n ≤ degree_limit → r ≡ Ok s → section_told r ≡ section_of degree_limit n → Section words n s.start s.count
section words n {s = s} same small found answers =
    let given = section-given degree_limit n _ (rw found at answers) small in
    section-words words degree_limit n s.start s.count small same (ap (λ (x : SectionAnswer). x.start) given)
    (ap (λ (x : SectionAnswer). x.count) given)

pub unwrap-section-requires : goal.unwrap-section-requires
unwrap-section-requires c = section-found degree_limit c.args.degree c.section.result c.section.ensures c.requires

pub overflow_add-result : goal.overflow_add-result
overflow_add-result c =
    let s = section _ c.args.degree c.args.self.listed c.requires c.unwrap-section.ensures c.section.ensures in
    record { fits = omega (arith, s.inside, words-counted, ap length c.args.self.listed) }

pub offset_bounds-self-section : goal.offset_bounds-self-section
offset_bounds-self-section c =
    let s = section _ c.args.degree c.args.self.listed c.requires c.unwrap-section.ensures c.section.ensures in
    record { fits = omega (arith, s.inside, words-counted, ap length c.args.self.listed) }

pub slice_bounds-result-end : goal.slice_bounds-result-end
slice_bounds-result-end c =
    let s = section _ c.args.degree c.args.self.listed c.requires c.unwrap-section.ensures c.section.ensures in
    s.inside

pub returns : goal.returns
returns c = (section _ c.args.degree c.args.self.listed c.requires c.unwrap-section.ensures c.section.ensures).is
