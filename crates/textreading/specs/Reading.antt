-- What is read off a text, whatever its form (document 02, P1). A text is of a form where it is the text of what is
-- read off it: so a reading need not judge, and what it gives of other texts does not matter.
--   is_digit b       the byte b is one of the ten digits
--   step n b        the number n with the byte b behind it: a digit is its last digit, any other byte says nothing
--   number_from n t  the number that the digits in t give behind the number n; number_in t, behind nothing
--   holds b t       the byte b stands somewhere in t
--   integer_in t     number_in t, negative where a minus stands in t
--   before b t      the text t up to the first byte b; behind b t, what follows that byte
--   in_front b ts    the byte b in front of the first of the texts ts
--   pieces b t      what the bytes b set apart in t, one piece more than there are of them
--   kept ns         the numbers ns, zeros left out; list_in t, those that commas set apart in t
--   small n         n, and 255 for any greater number: what a byte has of it
--   lines_of t       the lines of t, each with the newline that ends it; a rest with no newline is one line more
--   first_line t     the first of them, and nothing where there is none
use Rattle.theory.specs.Basics.{Bool, true, false, cond, List, [], map, ℕ, ℤ, pos, neg_ℤ}
use Rattle.theory.specs.Basics.{◌=?◌, ◌<?◌, ◌≤?◌, keep, get_or}
use Rattle.std.specs.Prelude.{min, ◌&&◌, ◌∷◌, ◌+◌, ◌-◌, ◌*◌}
use Rattle.text.specs.Text.{Text}
pub mod Bytes
pub mod Numbers
pub mod Lists

abbrev pub is_digit : ℕ → Bool
is_digit b = 48 ≤? b && b ≤? 57

abbrev pub step : ℕ → ℕ → ℕ
step n b = cond (is_digit b) (n * 10 + (b - 48)) n

abbrev pub number_from : ℕ → Text → ℕ
number_from n [] = n
number_from n (b ∷ t) = number_from (step n b) t

unfoldable pub number_in : Text → ℕ
number_in t = number_from 0 t

abbrev pub holds : ℕ → Text → Bool
holds b [] = false
holds b (x ∷ t) = cond (x =? b) true (holds b t)

unfoldable pub integer_in : Text → ℤ
integer_in t = cond (holds 45 t) (neg_ℤ (pos (number_in t))) (pos (number_in t))

abbrev pub before : ℕ → Text → Text
before b [] = []
before b (x ∷ t) = cond (x =? b) [] (x ∷ before b t)

abbrev pub behind : ℕ → Text → Text
behind b [] = []
behind b (x ∷ t) = cond (x =? b) t (behind b t)

abbrev pub in_front : ℕ → List Text → List Text
in_front b [] = (b ∷ []) ∷ []
in_front b (t ∷ ts) = (b ∷ t) ∷ ts

abbrev pub pieces : ℕ → Text → List Text
pieces b [] = [] ∷ []
pieces b (x ∷ t) = cond (x =? b) ([] ∷ pieces b t) (in_front x (pieces b t))

abbrev pub kept : List ℕ → List ℕ
kept ns = keep (0 <?◌) ns

unfoldable pub list_in : Text → List ℕ
list_in t = kept (map number_in (pieces 44 t))

abbrev pub small : ℕ → ℕ
small n = min n 255

unfoldable pub lines_of : Text → List Text
lines_of [] = []
lines_of (b ∷ t) = cond (b =? 10) ((b ∷ []) ∷ lines_of t) (in_front b (lines_of t))

abbrev pub first_line : Text → Text
first_line t = get_or (lines_of t) 0 []
