-- The listing is in decreasing lexicographic order, and class words rise along it.
--   Falling list   each of the list stands before all that follow it
use Rattle.std.specs.Prelude.{◌≡◌, refl, ◌≤◌, ◌<◌, ◌∷◌, ◌++◌, ◌-◌, ◌^◌}
use Rattle.std.proofs.Common.{arith, pow_mono}
use Rattle.theory.specs.Basics.{true, List, [], map, ℕ, zero, suc, length, get_or, Each}
use Rattle.theory.proofs.Basics.Laws.{each_append, each_same, each_map}
use Rattle.theory.proofs.Basics.AtPlace.{each_at}
use Rattle.theory.specs.Partition.{Parts, first, is_partition, degree}
use Rattle.theory.proofs.Partition.Laws.{front, in-front}
use Rattle.theory.specs.Digits.{word}
use Rattle.theory.proofs.Digits.Laws.{word_below}
use Rattle.theory.specs.ClassWord.{class_digits}
use Rattle.theory.proofs.ClassWord.Laws.{class-word-front}
use Rattle.theory.specs.Listing.{listing, Before, larger, later}
use Rattle.theory.proofs.Listing.Laws.{partitions_up_to, Built, done, stuck, too_large, fork, built}
use Rattle.theory.specs.Listing.Order.{UpTo}

-- ---- each of the list is a partition
partition-front : {p n : ℕ} (ps : Parts) → p ≤ n → UpTo (suc p) (n - p) ps → UpTo (suc p) (suc n) (suc p ∷ ps)
partition-front {p} {n} ps h f = record {
  partition = in-front {p = suc p} {ps = ps} (record { positive = omega arith; falls = f.low; rest = f.partition });
  low = omega arith;
  whole = omega arith;
}

pub partition-bound : {p n : ℕ} {ps : Parts} (q : ℕ) → first ps ≤ q → UpTo p n ps → UpTo q n ps
partition-bound q h f = record { partition = f.partition; low = h; whole = f.whole }

partition-more : {p n : ℕ} (ps : Parts) → UpTo p n ps → UpTo (suc p) n ps
partition-more {p} ps f = partition-bound (suc p) (omega arith) f

each-partition : {p n : ℕ} {list : List Parts} → Built p n list → Each (UpTo p n) list
each-partition done = (record { partition = refl; low = omega arith; whole = refl }, tt)
each-partition stuck = tt
each-partition (too_large {list = list} h b) = each_same (UpTo _ _) (UpTo _ _) list partition-more (each-partition b)
each-partition (fork {p = p} {n = n} {with-p = with-p} {below = below} h a b) =
    each_append (UpTo (suc p) (suc n)) (map (suc p ∷◌) with-p) below
    (each_map (UpTo (suc p) (n - p)) (UpTo (suc p) (suc n)) (suc p ∷◌) with-p (λ ps. partition-front ps h)
    (each-partition a))
    (each_same (UpTo p (suc n)) (UpTo (suc p) (suc n)) below partition-more (each-partition b))

-- ---- in order
abbrev pub Falling : List Parts → Type 0
Falling [] = Unit {0}
Falling (l ∷ list) = Each (Before l) list × Falling list

before-low : {p n : ℕ} (l m : Parts) → UpTo p (suc n) m → Before (suc p ∷ l) m
before-low l [] f = absurd (omega (arith, f.whole))
before-low {p} l (q ∷ m) f = larger {p = suc p} {q = q} (omega arith)

falling-fork : (p n : ℕ) (list below : List Parts) → Each (UpTo p (suc n)) below → Falling list → Falling below
    → Falling (map (suc p ∷◌) list ++ below)
falling-fork p n [] below e f g = g
falling-fork p n (l ∷ list) below e f g = (
  each_append (Before (suc p ∷ l)) (map (suc p ∷◌) list) below
      (each_map (Before l) (Before (suc p ∷ l)) (suc p ∷◌) list (λ m. later) f.0)
      (each_same (UpTo p (suc n)) (Before (suc p ∷ l)) below (before-low l) e),
  falling-fork p n list below e f.1 g,
)

pub falling : {p n : ℕ} {list : List Parts} → Built p n list → Falling list
falling done = (tt, tt)
falling stuck = tt
falling (too_large h b) = falling b
falling (fork {p = p} {n = n} {with-p = with-p} {below = below} h a b) =
    falling-fork p n with-p below (each-partition b) (falling a) (falling b)

falling-at : (list : List Parts) (i j : ℕ) → Falling list → i < j → j < length list
    → Before (get_or list i []) (get_or list j [])
falling-at [] i j f h l = absurd (omega arith)
falling-at (m ∷ list) i zero f h l = absurd (omega arith)
falling-at (m ∷ list) zero (suc j) f h l = each_at (Before m) list [] j f.0 (omega arith)
falling-at (m ∷ list) (suc i) (suc j) f h l = falling-at list i j f.1 (omega arith) (omega arith)

-- ---- class words rise
rises : (W : ℕ) {l m : Parts} → Before l m → is_partition l ≡ true → is_partition m ≡ true → degree l ≤ W → degree m ≤ W
    → word W (class_digits l) < word W (class_digits m)
rises W (larger {p = p} {q = q} {l = ps} {m = qs} h) el em dl dm =
    let f = front p ps el in
    let g = front q qs em in
    let pow : 2 ^ suc (W - p) ≤ 2 ^ (W - q) = pow_mono (omega arith) in
    let a = class-word-front W p ps f.positive (omega arith) in
    let b = class-word-front W q qs g.positive (omega arith) in
    omega (arith, word_below (W - p) (class_digits ps))
rises W (later {p = p} {l = ps} {m = qs} b) el em dl dm =
    let f = front p ps el in
    let g = front p qs em in
    let a = class-word-front W p ps f.positive (omega arith) in
    let c = class-word-front W p qs f.positive (omega arith) in
    omega (arith, rises (W - p) b f.rest g.rest (omega arith) (omega arith))

-- ---- of the listing
pub listing-in-order : (n i j : ℕ) → i < j → j < length (listing n)
    → Before (get_or (listing n) i []) (get_or (listing n) j [])
unfolding listing
listing-in-order n i j h l = falling-at (partitions_up_to n n) i j (falling (built n n)) h l

pub each-listed : (n : ℕ) → Each (UpTo n n) (listing n)
unfolding listing
each-listed n = each-partition (built n n)

pub partition-at : (n i : ℕ) → i < length (listing n) → UpTo n n (get_or (listing n) i [])
partition-at n i h = each_at (UpTo n n) (listing n) [] i (each-listed n) h

pub class-words-rise : (W n i j : ℕ) → n ≤ W → i < j → j < length (listing n)
    → word W (class_digits (get_or (listing n) i [])) < word W (class_digits (get_or (listing n) j []))
class-words-rise W n i j w h l =
    let f = partition-at n i (omega arith) in
    let g = partition-at n j l in
    rises W (listing-in-order n i j h l) f.partition g.partition (omega arith) (omega arith)
