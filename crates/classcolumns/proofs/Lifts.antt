-- One cycle more changes a table of characters, entry by entry; and so do all cycles, from the last.
--   Cut limit cycles i n        the i-th cycle and those after it, together of degree n
--   Lifting p h cs table i      a table of the cycles cs that becomes one of h ∷ cs: the words before index i are done
--   NextWord limit word h       how the next is done: a word within the limit, and a cycle h of a good length
--   Filling p cycles table i n  a table of the cycles from the i-th on, which have the degree n
--   Earlier p cycles table i n  it has those after the i-th, and those from the i-th on have the degree n
use Rattle.std.specs.Prelude.{◌∷◌, ◌+◌, ◌-◌}
use mathlib.Core.Path.{◌≡◌, sym, ◌∙◌, ap}
use Prim.Native.Nat.{◌≤◌, ◌<◌}
use native.Mathlib.Nat.{le_refl}
use native.Mathlib.Numerals.{add-one}
use native.Mathlib.Decide.{ℕ_discrete}
use native.Mathlib.Omega.{arith}
use lib.ListN.{set}
use lib.Seq.{drop-length}
use Rattle.theory.specs.Basics.{true, List, [], length, get_or, drop, signed, ℕ, suc, ℤ}
use Rattle.theory.proofs.Basics.Laws.{sum_same}
use Rattle.theory.specs.Partition.{Parts, degree}
use Rattle.theory.proofs.Partition.Laws.{no-zero-drop, degree-drop}
use Rattle.theory.specs.ShapeWord.{shape_of, good_shape}
use Rattle.theory.specs.Character.{◌on◌}
use Rattle.theory.specs.Hooks.{hook_words}
use Rattle.theory.specs.Hooks.Words.{Left}
use Rattle.theory.proofs.Hooks.Words.{hooks-leave}
use Rattle.theory.specs.Listing.{listing, start}
use Rattle.theory.proofs.Listing.Words.{start-next, index, indexed, ranked-at}
use Rattle.theory.specs.Refusals.Laws.{Within}
use Rattle.words.proofs.PartLists.{next-left, degree-left}
use Rattle.listing.specs.Calls.{words_within}
use Rattle.pages.proofs.Signed.{carried}
use Rattle.characters.specs.Private.Evaluation.{Evaluable, hook_sum}
use Rattle.classcolumns.specs.Private.Places.{Places}
use Rattle.classcolumns.specs.Private.Columns.{entry, Cycles, Kept}
use Rattle.classcolumns.proofs.PlaceLaws.{Placed}
use Rattle.characters.proofs.Walks.{shape-within, widened, character-bounded, character-carried}
use Rattle.characters.proofs.Walks.{cycle-long, evaluable-left, hook-rule-holds}
use Rattle.classcolumns.proofs.KeptTables.{ranked-evaluable, set_same, set_other, set-form}

-- ---- the cycles from the i-th on
pub record Cut (limit : ℕ) (cycles : Parts) (i n : ℕ) : Type 0 where
  pub whole : drop i cycles ≡ get_or cycles i 0 ∷ drop (i + 1) cycles
  pub all : Cycles limit (get_or cycles i 0 ∷ drop (i + 1) cycles)
  pub starts : start n ≡ start (degree (get_or cycles i 0 ∷ drop (i + 1) cycles))
  pub ends : start (n + 1) ≡ start (suc (degree (get_or cycles i 0 ∷ drop (i + 1) cycles)))

pub cut : (limit : ℕ) (cycles : Parts) (i n : ℕ) → i < length cycles → n ≡ degree (drop i cycles)
    → Cycles limit (drop i cycles) → Cut limit cycles i n
cut limit cycles i n inside e from =
    let whole = next-left cycles i inside in
    let of-degree : n ≡ degree (get_or cycles i 0 ∷ drop (i + 1) cycles) = e ∙ ap degree whole in
    record {
      whole = whole;
      all = rw whole at from;
      starts = ap start of-degree;
      ends = rw (add-one n, of-degree);
    }

-- ---- one cycle more
pub record Lifting (p : Places) (h : ℕ) (cs : Parts) (table : List ℤ) (i : ℕ) : Type 0 where
  pub kept : Kept p table cs
  pub from : start (degree (h ∷ cs)) ≤ i
  pub done : (w : ℕ) → Evaluable p.limit w (h ∷ cs) → index w < i → entry p table w ≡ shape_of w on (h ∷ cs)

pub record NextWord (limit word h : ℕ) : Type 0 where
  pub within : Within limit word
  pub good : good_shape word ≡ true
  pub long : 0 < h
  pub short : h < 32

module _ {p : Places} (placed : Placed p) (h : ℕ) (cs : Parts) where
  -- the degree that the table is lifted to
  abbrev n : ℕ
  n = degree (h ∷ cs)

  pub lift-start : (table : List ℤ) → Kept p table cs → Lifting p h cs table (start n)
  lift-start table kept = record {
    kept = kept;
    from = le_refl (start n);
    done = λ w e l. absurd (omega (arith, ap start e.degrees));
  }

  pub lift-end : (table : List ℤ) (i : ℕ) → start (suc n) ≤ i → Lifting p h cs table i → Kept p table (h ∷ cs)
  lift-end table i past l = record {
    form = l.kept.form;
    holds = λ w e.
        let end : start (suc (degree (shape_of w))) ≡ start (suc n) = ap (λ (d : ℕ). start (suc d)) e.degrees in
        let stands = indexed (suc p.limit) w e.good (omega (arith, e.degrees, e.small)) in
        l.done w e (omega (arith, stands.in-degree));
  }

  module _ (cycles : Cycles p.limit (h ∷ cs)) (table : List ℤ) (i : ℕ) (l : Lifting p h cs table i)
      (more : i < start (suc n)) where
    abbrev here : ℕ
    here = get_or (words_within p.limit) i 0

    here-evaluable : Evaluable p.limit here (h ∷ cs)
    here-evaluable =
        let small = cycles.small in
        let room = placed.room in
        ranked-evaluable cycles (ranked-at (suc p.limit) n i (omega arith) (omega arith) l.from more)

    pub lift-word : (word : ℕ) → word ≡ here → NextWord p.limit word h
    lift-word word is =
        let small = cycles.small in
        let room = placed.room in
        rw is
        (record {
          within = shape-within here-evaluable;
          good = here-evaluable.good;
          long = cycle-long here-evaluable;
          short = omega arith;
        })

    sum_is : hook_sum (entry p table) h here ≡ shape_of here on (h ∷ cs)
    unfolding hook_sum
    sum_is =
        sum_same (Left h here) _ _ (hook_words h here)
        (λ hook left.
        ap (signed hook.minus) (l.kept.holds hook.leaves (evaluable-left here-evaluable hook left)))
        (hooks-leave h here)
        ∙ hook-rule-holds here-evaluable

    new : carried (hook_sum (entry p table) h here) ≡ shape_of here on (h ∷ cs)
    new = rw sum_is (character-carried (widened here-evaluable placed.room))

    lift-here : Lifting p h cs (set table (p.place here) (carried (hook_sum (entry p table) h here))) (i + 1)
    lift-here =
        let x : ℤ = shape_of here on (h ∷ cs) in
        let form = l.kept.form in
        let good = here-evaluable.good in
        let own = shape-within here-evaluable in
        rw new
        (record {
          kept = record {
            form = set-form placed table here x form good own (character-bounded here-evaluable);
            holds = λ w e.
                let other : p.place w ≡ p.place here → ⊥ = λ same.
                let same-degree = ap (λ (v : ℕ). degree (shape_of v)) (placed.apart w here (shape-within e) own same) in
                omega (arith, e.degrees, here-evaluable.degrees, cycle-long here-evaluable) in
                set_other placed table here x form good w other ∙ l.kept.holds w e;
          };
          from = omega (arith, l.from);
          done = λ w e before.
              let its = shape-within e in
              let stands = indexed (suc p.limit) w e.good (omega (arith, its.small)) in
              elim (ℕ_discrete (p.place w) (p.place here)) [
                | yes same ↦ rw (placed.apart w here its own same) (set_same placed table here x form good)
                | no other ↦
                    let earlier : index w ≡ i → ⊥ = λ at.
                    other (ap p.place (sym stands.at ∙ ap (λ (j : ℕ). get_or (words_within p.limit) j 0) at)) in
                    set_other placed table here x form good w other ∙ l.done w e (omega arith)
              ];
        })

    pub lift-next : (word place : ℕ) (number : ℤ) → word ≡ here → place ≡ p.place word
        → number ≡ hook_sum (entry p table) h word → Lifting p h cs (set table place (carried number)) (i + 1)
    lift-next word place number is at counts = rw (counts, at, is) lift-here

-- the words of the degree of the cycles from the i-th on
pub cut-word : {limit i n : ℕ} (cycles : Parts) → Cut limit cycles i n → (k : ℕ) → k < length (listing n)
    → start n + k < start (suc (degree (get_or cycles i 0 ∷ drop (i + 1) cycles)))
cut-word {limit} {i} {n} cycles c k listed = omega (arith, rw add-one at c.ends, start-next n)

-- ---- all cycles, from the last
module _ (p : Places) (cycles : Parts) where
  pub record Filling (table : List ℤ) (i n : ℕ) : Type 0 where
    pub within : i ≤ length cycles
    pub of-degree : n ≡ degree (drop i cycles)
    pub kept : Kept p table (drop i cycles)

  pub fill_start : (table : List ℤ) → Kept p table [] → Filling table (length cycles) 0
  fill_start table kept = record {
    within = le_refl (length cycles);
    of-degree = sym (ap degree (drop-length cycles));
    kept = rw (drop-length cycles) kept;
  }

  pub record Earlier (table : List ℤ) (i n : ℕ) : Type 0 where
    pub inside : i < length cycles
    pub from : Cycles p.limit (drop i cycles)
    pub of-degree : n ≡ degree (drop i cycles)
    pub kept : Kept p table (drop (i + 1) cycles)

  pub fill-next : Cycles p.limit cycles → (table : List ℤ) (i n : ℕ) → Filling table i n → 0 < i
      → Earlier table (i - 1) (n + get_or cycles (i - 1) 0)
  fill-next all table i n f more =
      let inside : i - 1 < length cycles = omega (arith, f.within) in
      let next : i - 1 + 1 ≡ i = omega arith in
      record {
        inside = inside;
        from = record {
          no_zero = no-zero-drop (i - 1) all.no_zero;
          small = omega (arith, degree-drop (i - 1) cycles, all.small);
        };
        of-degree = omega (arith, rw next at (degree-left cycles (i - 1) inside), f.of-degree);
        kept = rw next f.kept;
      }
