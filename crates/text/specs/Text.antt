-- Text as the programs write it (document 01, "Table program"; document 02, P1). A text is the list of its bytes.
--   Text               a list of bytes; ascii s, those of a text that is written out here
--   decimal n          n in decimal, with no needless zero, for n below 10^20; decimal_in k n, its last k digits at most
--   integer z          z in decimal, with minus_sign z in front: a minus if z is negative, else nothing
--   commas ts          texts set apart by commas; list_text ns, numbers in decimal set apart by commas
--   text_line name t    a name, a text and a newline; field, with a name that is written out here
use Rattle.std.specs.Prelude.{◌∷◌, ◌++◌, ◌+◌, ◌/◌, ◌%◌}
use Prim.Native.String.{String, [] as none, ◌∷◌ as ◌then◌}
use Prim.Native.Char.{code}
use Rattle.theory.specs.Basics.{cond, List, [], map, ℕ, zero, suc}
use Rattle.theory.specs.Basics.{ℤ, pos, negsuc, nat_abs, ◌<?◌, joined}
pub mod Decimals
pub mod Lists

abbrev pub Text : Type 0
Text = List ℕ

abbrev pub ascii : String → Text
ascii none = []
ascii (c then s) = code c ∷ ascii s

-- at most k digits; 64 bits hold no number of more than 20
abbrev pub decimal_in : ℕ → ℕ → Text
decimal_in zero n = []
decimal_in (suc k) n = cond (n <? 10) [] (decimal_in k (n / 10)) ++ (48 + n % 10) ∷ []

unfoldable pub decimal : ℕ → Text
decimal n = decimal_in 20 n

abbrev pub minus_sign : ℤ → Text
minus_sign (pos n) = []
minus_sign (negsuc n) = ascii "-"

unfoldable pub integer : ℤ → Text
integer z = minus_sign z ++ decimal (nat_abs z)

unfoldable pub commas : List Text → Text
commas [] = []
commas (t ∷ ts) = t ++ joined (λ u. ascii "," ++ u) ts

abbrev pub list_text : List ℕ → Text
list_text ns = commas (map decimal ns)

abbrev pub text_line : Text → Text → Text
text_line name t = name ++ t ++ ascii "\n"

abbrev pub field : String → Text → Text
field name t = text_line (ascii name) t
