-- What is lifted from one word to a list of them (document 02, P5): which word is the first bad one, that a move keeps
-- what each word gives, and that there and back is the list again.
--   FirstBad checks ws i r        r names a word of ws, the first having the index i, and what refuses it; none before
--                                 it is refused
--   Accepted checks given lent    the lists are as long as each other, not too long, and no word is refused
-- Of OldForm/Laws: Passes checks w, no check refuses w; OneWord, what is so of one word.
use Rattle.std.specs.Prelude.{◌≡◌, refl, ◌≤◌, ◌<◌, ◌∷◌, ◌+◌}
use Rattle.std.proofs.Common.{sym, ◌∙◌, ap, map-id, add-zero, arith, eqb-true, eq-eqb, leb-true, le-leb}
use Rattle.std.proofs.lemmas.Simd.{map-map}
use Rattle.std.proofs.Math.Decide.{ℕ_discrete}
use Rattle.std.proofs.lemmas.List.{length-map}
use Rattle.std.proofs.lemmas.Bool.{not-false}
use Rattle.theory.specs.Basics.{List, [], map, length, get_or, take, ℕ, suc}
use Rattle.theory.specs.Basics.{◌=?◌, ◌≤?◌, Each}
use Rattle.theory.proofs.Basics.Laws.{both, each_map, map_same}
use Rattle.theory.specs.Partition.{Parts}
use Rattle.theory.specs.Limits.{list_limit}
use Rattle.theory.specs.Refusals.{Check, first_of, no-20}
use Rattle.theory.proofs.Refusals.Laws.{or-refused, neither, none-applies}
use Rattle.theory.specs.OldForm.Laws.{Passes, OneWord}
use Rattle.words.specs.Answers.{Outcome}
use Rattle.oldlists.specs.Lists.{ListAnswer, list_answer, first_bad, judged, moved}

-- ---- the lengths
pub lengths-fit : (given lent : List ℕ) → length given ≡ length lent → length given ≤ list_limit
    → first_of (no-20 given lent ∷ []) ≡ 0
lengths-fit given lent equal short =
    rw (eq-eqb (length given) (length lent) equal, le-leb (length given) list_limit short)

module _ (checks : ℕ → List Check) where
  -- ---- the first bad word
  pub record FirstBad (ws : List ℕ) (i : ℕ) (r : ListAnswer) : Type 0 where
    pub at : ℕ
    pub index : r.index ≡ i + at
    pub inside : at < length ws
    pub number : r.refused ≡ first_of (checks (get_or ws at 0))
    pub before : Each (Passes checks) (take at ws)

  pub first-bad : (i : ℕ) (ws : List ℕ) → ((first_bad checks i ws).refused ≡ 0 → ⊥)
      → FirstBad ws i (first_bad checks i ws)
  first-bad i [] n = absurd (n refl)
  first-bad i (w ∷ ws) n = elim (ℕ_discrete (first_of (checks w)) 0) [
    | yes z ↦
        let rest = first-bad (suc i) ws (rw z at n) in
        rw z (record {
          at = suc rest.at;
          index = rest.index ∙ omega arith;
          inside = omega (arith, rest.inside);
          number = rest.number;
          before = (z, rest.before);
        })
    | no f ↦ record {
      at = 0;
      index = ap (λ (x : ListAnswer). x.index) (this i w ws f) ∙ sym (add-zero i);
      inside = omega arith;
      number = ap (λ (x : ListAnswer). x.refused) (this i w ws f);
      before = tt;
    }
  ]
    where
      this : (i w : ℕ) (ws : List ℕ) → (first_of (checks w) ≡ 0 → ⊥)
          → first_bad checks i (w ∷ ws) ≡ list_answer (first_of (checks w)) i
      this i w ws f = or-refused _ (first_bad checks (suc i) ws) (first_of (checks w)) f

  -- no word is refused exactly where the number is 0
  pub none-bad : (i : ℕ) (ws : List ℕ) → (first_bad checks i ws).refused ≡ 0 → Each (Passes checks) ws
  none-bad i [] e = tt
  none-bad i (w ∷ ws) e =
      let number : ListAnswer → ℕ = λ r. r.refused in
      let (none, rest) = neither (λ k. list_answer k i) (first_bad checks (suc i) ws) number (λ k. refl) _ e in
      (none, none-bad (suc i) ws rest)

  pub all_pass : (i : ℕ) (ws : List ℕ) → Each (Passes checks) ws → first_bad checks i ws ≡ list_answer 0 0
  all_pass i [] e = refl
  all_pass i (w ∷ ws) e = rw e.0 (all_pass (suc i) ws e.1)

  -- ---- a list that is accepted
  pub record Accepted (given lent : List ℕ) : Type 0 where
    pub equal : length given ≡ length lent
    pub short : length given ≤ list_limit
    pub passes : Each (Passes checks) given

  -- a list is not refused exactly where it is so
  pub accepted : (given lent : List ℕ) → (judged checks given lent).refused ≡ 0 → Accepted given lent
  accepted given lent e =
      let number : ListAnswer → ℕ = λ r. r.refused in
      let (fits, none) = neither (λ k. list_answer k 0) (first_bad checks 0 given) number (λ k. refl) _ e in
      let tests = not-false _ (none-applies (no-20 given lent ∷ []) refl fits).0 in
      let (equal, short) = both (length given =? length lent) (length given ≤? list_limit) tests in
      record {
        equal = eqb-true (length given) (length lent) equal;
        short = leb-true (length given) list_limit short;
        passes = none-bad 0 given none;
      }

  pub accepts : {given lent : List ℕ} → Accepted given lent → judged checks given lent ≡ list_answer 0 0
  accepts {given} {lent} a = rw (lengths-fit given lent a.equal a.short) (all_pass 0 given a.passes)

  pub list-moved : (move : ℕ → ℕ) {given lent : List ℕ} → Accepted given lent
      → moved checks move given lent ≡ (list_answer 0 0, map move given)
  list-moved move a = rw (accepts a)

-- ---- from one word to a list of them
module _ {here there : (ℕ → List Check) × (ℕ → ℕ)} {p q : ℕ → Parts} (one : OneWord here there p q)
    (given lent : List ℕ) {after : List ℕ} {r : ListAnswer} (o : Outcome (moved here.0 here.1 given lent) r after)
    (none : r.refused ≡ 0) where
  abbrev is : Accepted here.0 given lent
  is = accepted here.0 given lent (sym (ap (λ (x : ListAnswer). x.refused) o.answers) ∙ none)

  wrote : after ≡ map here.1 given
  wrote = o.leaves ∙ ap (λ (x : ListAnswer × List ℕ). x.1) (list-moved here.0 here.1 is)

  pub list-kept : map q after ≡ map p given
  list-kept = ap (map q) wrote ∙ map-map q here.1 given
      ∙ map_same (Passes here.0) (λ w. q (here.1 w)) p given one.keeps is.passes

  -- whatever list is lent for the way back
  pub list_back : (again : List ℕ) → length after ≡ length again
      → moved there.0 there.1 after again ≡ (list_answer 0 0, given)
  list_back again e =
      let there-too : Accepted there.0 after again = record {
        equal = e;
        short = rw (wrote, length-map) is.short;
        passes = rw wrote (each_map (Passes here.0) (Passes there.0) here.1 given one.passes is.passes);
      } in
      let same =
      ap (map there.1) wrote ∙ map-map there.1 here.1 given
      ∙ map_same (Passes here.0) (λ w. there.1 (here.1 w)) (λ w. w) given one.back is.passes
      ∙ map-id given in
      list-moved there.0 there.1 there-too ∙ ap {B = ListAnswer × List ℕ} (λ ws. (list_answer 0 0, ws)) same
