-- A cycle struck from a class word while its parts are read: what has been read stays, what is left goes without it.
--   Striking w cycle left rest ps   of the class word w `left` digits are left, and the number `rest` in them; its
--                                   parts are ps, and none of the parts before them is the cycle
--   PartRead w cycle left rest p b qs   what is known where the part p stands before the parts qs, and b is its one
use Rattle.std.specs.Prelude.{◌≡◌, ◌<◌, ◌≤◌, ◌∷◌, ◌+◌, ◌-◌, ◌*◌, ◌%◌, ◌^◌, None, Some}
use Rattle.std.proofs.Common.{refl, sym, ap, ◌∙◌, arith, eq-eqb, ne_eqb, mod-eq_of_lt, pow_mono, shl_lt}
use Rattle.std.proofs.Math.Pow.{low, mod-mod-pow}
use Rattle.theory.specs.Basics.{[], ℕ}
use Rattle.theory.specs.Partition.{Parts, degree, times, without}
use Rattle.theory.specs.Partition.Laws.{NoZero, some}
use Rattle.theory.specs.Digits.{digits, word}
use Rattle.theory.proofs.Digits.Laws.{one_shifted, word_below, length_digits}
use Rattle.theory.specs.ClassWord.{class_digits, class_word, class_of}
use Rattle.theory.proofs.ClassWord.Laws.{class-word-front, parts-word, parts-no-zero, degree-parts, word-of-class}
use Rattle.theory.proofs.ClassWord.Reading.{word_moved}
use Rattle.sessions.specs.Private.Striking.{class_without}

pub record Striking (w cycle left rest : ℕ) (ps : Parts) : Type 0 where
  pub parts : NoZero ps
  pub room : degree ps ≤ left
  pub digits : left ≤ 31
  pub reads : rest ≡ word left (class_digits ps)
  pub inside : rest ≤ w
  pub makes : class_word (without cycle (class_of w)) ≡ w - rest + word left (class_digits (without cycle ps))
  pub counts : times cycle (class_of w) ≡ times cycle ps

pub strike-start : (w cycle : ℕ) {ps : Parts} → w < 2 ^ 31 → ps ≡ class_of w → Striking w cycle 31 w ps
strike-start w cycle l e =
    rw e
    (record {
      parts = parts-no-zero 0 (digits 31 w);
      room = omega (arith, degree-parts 0 (digits 31 w), length_digits 31 w);
      digits = omega arith;
      reads = sym (word-of-class l);
      inside = omega arith;
      makes = omega arith;
      counts = refl;
    })

-- no part is left
pub strike-end : {w cycle left rest : ℕ} {ps : Parts} → Striking w cycle left rest ps → ps ≡ []
    → None ≡ class_without cycle w
unfolding class_without
strike-end s none = rw (s.counts, none)

-- parts moved up
moved : (n k : ℕ) {ps : Parts} → NoZero ps → degree ps ≤ n
    → word (n + k) (class_digits ps) ≡ word n (class_digits ps) * 2 ^ k
moved n k {ps} z h =
    ap (λ qs. word (n + k) (class_digits qs)) (sym (parts-word n z h))
    ∙ word_moved n k (word n (class_digits ps)) (word_below n (class_digits ps))

-- the part p, before the parts qs
pub record PartRead (w cycle left rest p b : ℕ) (qs : Parts) : Type 0 where
  pub positive : 0 < p
  pub fits : p ≤ left
  pub takes : b ≤ rest
  pub behind : rest - b ≡ word (left - p) (class_digits qs)
  pub miss : (p ≡ cycle → ⊥) → Striking w cycle (left - p) (rest - b) qs
  pub hit : p ≡ cycle → class_word (without cycle (class_of w)) ≡ w - rest + (rest - b) * 2 ^ p % 2 ^ 32
  pub found : p ≡ cycle → times cycle (class_of w) ≡ 0 → ⊥

first-parts : {p : ℕ} {qs : Parts} → NoZero (p ∷ qs) → (0 < p) × NoZero qs
first-parts (some n) = (omega arith, n)

pub part-read : {w cycle left rest p : ℕ} {ps qs : Parts} → Striking w cycle left rest ps → ps ≡ p ∷ qs
    → PartRead w cycle left rest p (1 * 2 ^ (left - p) % 2 ^ 32) qs
part-read {w} {cycle} {left} {rest} {p} {ps} {qs} s e =
    let (positive, parts) = first-parts (rw e at s.parts) in
    let room : p + degree qs ≤ left = rw e at s.room in
    let m : ℕ = left - p in
    let front = class-word-front left p qs positive (omega arith) in
    let reads : rest ≡ word left (class_digits (p ∷ qs)) = rw e at s.reads in
    let behind : rest - 2 ^ m ≡ word m (class_digits qs) = omega arith in
    rw (one_shifted 32 m (omega (arith, s.digits)))
    (record {
      positive = positive;
      fits = omega arith;
      takes = omega arith;
      behind = behind;
      miss = λ n.
          let others : Parts = without cycle qs in
          let other = ne_eqb p cycle n in
          let left-out = class-word-front left p others positive (omega arith) in
          let makes : class_word (without cycle (class_of w)) ≡ w - rest + word left (class_digits (p ∷ others)) =
          rw (e, other) at s.makes in
          record {
            parts = parts;
            room = omega arith;
            digits = omega (arith, s.digits);
            reads = behind;
            inside = omega (arith, s.inside);
            makes = omega (arith, s.inside);
            counts = rw (e, other) at s.counts;
          };
      hit = λ h.
          let makes : class_word (without cycle (class_of w)) ≡ w - rest + word left (class_digits qs) =
          rw (e, eq-eqb p cycle h) at s.makes in
          let whole : m + p ≡ left = omega arith in
          let up : word left (class_digits qs) ≡ word m (class_digits qs) * 2 ^ p =
          rw whole at (moved m p parts (omega arith)) in
          let small : word m (class_digits qs) * 2 ^ p < 2 ^ left = rw whole at (shl_lt m p (word_below m (class_digits qs))) in
          let bits : 2 ^ left ≤ 2 ^ 31 = pow_mono {j = 31} s.digits in
          let same : word m (class_digits qs) * 2 ^ p % 2 ^ 32 ≡ word m (class_digits qs) * 2 ^ p = mod-eq_of_lt (omega arith) in
          rw (behind, same, ← up) makes;
      found = λ h none.
          let counts = rw (e, eq-eqb p cycle h) at s.counts in
          omega arith;
    })

pub strike-hit : {w cycle left rest p b : ℕ} {qs : Parts} → PartRead w cycle left rest p b qs → p ≡ cycle
    → Some (w - rest + (rest - b) * 2 ^ p % 2 ^ 32) ≡ class_without cycle w
unfolding class_without
strike-hit {w} {cycle} r h = rw (← r.hit h, ne_eqb (times cycle (class_of w)) 0 (r.found h)) refl

-- where `rest` are the lowest digits of w, those behind the part are its lowest too
pub lowest : {w cycle left p b : ℕ} {qs : Parts} → PartRead w cycle left (w % 2 ^ left) p b qs → b ≡ 2 ^ (left - p)
    → w % 2 ^ left - b ≡ w % 2 ^ (left - p)
lowest {w} {cycle} {left} {p} {b} {qs} r e =
    let m : ℕ = left - p in
    let x : ℕ = word m (class_digits qs) in
    let whole : p + m ≡ left = omega (arith, r.fits) in
    let above : w % 2 ^ left ≡ 1 * 2 ^ m + x = omega (arith, r.takes, r.behind) in
    let back = rw whole at (mod-mod-pow w p m) in
    r.behind ∙ sym (low 1 m {lo = x} (word_below m (class_digits qs))) ∙ ap (λ (y : ℕ). y % 2 ^ m) (sym above) ∙ back
