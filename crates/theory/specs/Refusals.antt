-- Numbers that refuse (document 01, the table and "Order"; document 02, each request's refusals). A check is a test and
-- the number that it refuses with.
--   no-1 .. no-15       the rows of the table, each once, no-1 as P6 has it; no-16 and no-17, those of P1; no-18 and
--                       no-19, those of P3; no-20, that of P5; no-21, that of P7; no-1-good, 1 of a word that has to
--                       be good (P6, "save in P5")
--   first_of checks      the number of the first check whose test applies, 0 if none does
--   refused_or k f x     f k, which refuses with the number k, or x where k is 0
--   shape_checks         the checks of a single call on a shape word; class_checks, on a class word; pair_checks, on both
--   good_shape_checks     the checks of a shape word that has to be good, as those of lists (P5, P6)
--   shape_list_checks     the checks of a part list for a shape; class_list_checks, for a class
use Rattle.std.specs.Prelude.{◌&&◌, ◌∷◌}
use Rattle.theory.specs.Basics.{Bool, not, cond, List, [], length, take, ℕ, zero, suc, ◌=?◌, ◌<?◌}
use Rattle.theory.specs.Basics.{◌≤?◌, same}
use Rattle.theory.specs.Limits.{page_limit, list_limit}
use Rattle.theory.specs.Partition.{Parts, is_partition, degree, times}
use Rattle.theory.specs.ShapeWord.{good_shape, clear_sign, shape_of}
use Rattle.theory.specs.ClassWord.{good_class, class_of}
pub mod Laws

abbrev pub Check : Type 0
Check = Bool × ℕ

abbrev pub no-1 : ℕ → Check
no-1 w = (not (clear_sign w), 1)

abbrev pub no-1-good : ℕ → Check
no-1-good w = (not (good_shape w), 1)

abbrev pub no-2 : ℕ → Parts → Check
no-2 limit shape = (limit <? degree shape, 2)

abbrev pub no-3 : ℕ → Check
no-3 w = (not (good_class w), 3)

abbrev pub no-3-list : Parts → Check
no-3-list ps = (not (is_partition ps), 3)

abbrev pub no-4 : ℕ → Parts → Check
no-4 limit class = (limit <? degree class, 4)

abbrev pub no-5 : Parts → Parts → Check
no-5 shape class = (not (degree shape =? degree class), 5)

abbrev pub no-6 : List ℕ → Check
no-6 page = (page_limit <? length page, 6)

abbrev pub no-7 : Bool → Check
no-7 sound = (not sound, 7)

abbrev pub no-8 : ℕ → ℕ → Check
no-8 lines line = (lines ≤? line, 8)

abbrev pub no_9 : Parts → ℕ → Check
no_9 class cycle = (times cycle class =? 0, 9)

abbrev pub no-10 : {A : Type 0} → List A → List ℕ → Check
no-10 lines page = (length page <? length lines, 10)

abbrev pub no-11 : ℕ → List Parts → Check
no-11 rank listing = (length listing ≤? rank, 11)

abbrev pub no-12 : ℕ → ℕ → Check
no-12 limit n = (limit <? n, 12)

abbrev pub no-13 : Bool → Check
no-13 formed = (not formed, 13)

abbrev pub no-14 : {A : Type 0} → List A → List A → Check
no-14 values column = (length column <? length values, 14)

abbrev pub no-15 : ℕ → Check
no-15 kind = (not (1 ≤? kind && kind ≤? 5), 15)

-- the first line of a text that is at fault, 0 for none
abbrev pub no-16 : ℕ → Check
no-16 line = (not (line =? 0), 16)

abbrev pub no-17 : {A : Type 0} → List A → List A → Check
no-17 text buffer = (length buffer <? length text, 17)

abbrev pub no-18 : {A : Type 0} → List A → List A → Check
no-18 preview strip = (length strip <? length preview, 18)

-- the front of a strip that is too short is not the preview
abbrev pub no-19 : List ℕ → List ℕ → Check
no-19 preview strip = (not (same preview (take (length preview) strip)), 19)

-- unequal lengths, or more than a list may have
abbrev pub no-20 : List ℕ → List ℕ → Check
no-20 given lent = (not (length given =? length lent && length given ≤? list_limit), 20)

-- a column of coefficients that is not as long as the page
abbrev pub no-21 : {A B : Type 0} → List A → List B → Check
no-21 page column = (not (length page =? length column), 21)

-- ---- the order
abbrev pub first_of : List Check → ℕ
first_of [] = 0
first_of (check ∷ checks) = cond check.0 check.1 (first_of checks)

abbrev pub refused_or : {A : Type 0} → ℕ → (ℕ → A) → A → A
refused_or zero f x = x
refused_or (suc k) f x = f (suc k)

abbrev pub shape_checks : ℕ → ℕ → List Check
shape_checks limit w = no-1 w ∷ no-2 limit (shape_of w) ∷ []

abbrev pub good_shape_checks : ℕ → ℕ → List Check
good_shape_checks limit w = no-1-good w ∷ no-2 limit (shape_of w) ∷ []

abbrev pub class_checks : ℕ → ℕ → List Check
class_checks limit w = no-3 w ∷ no-4 limit (class_of w) ∷ []

abbrev pub pair_checks : ℕ → ℕ → ℕ → List Check
pair_checks limit s c =
    no-1 s ∷ no-3 c ∷ no-2 limit (shape_of s) ∷ no-4 limit (class_of c) ∷ no-5 (shape_of s) (class_of c) ∷ []

abbrev pub shape_list_checks : ℕ → Parts → List Check
shape_list_checks limit ps = no-3-list ps ∷ no-2 limit ps ∷ []

abbrev pub class_list_checks : ℕ → Parts → List Check
class_list_checks limit ps = no-3-list ps ∷ no-4 limit ps ∷ []
