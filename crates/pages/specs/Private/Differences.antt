-- Whether no two words are equal, and the chains that tell it: each word is on one chain, on which equal words meet.
--   all_different xs              no two of the numbers xs are equal
--   absent w xs                  w is none of the numbers xs
--   few_chains, many_chains        61 and 4,093: how many chains there are for few words and for many
--   chain_of n w                  the chain of the word w, where there are n chains
--   latest f xs h k              of the first k words xs, the latest on the chain h: one more than its index, and 0
--                                where none is on it; f is the chain of a word
--   Linked f xs links k          links has, for each of the first k words xs, the latest before it on its chain
--   Chained f xs heads links k   and heads, for each chain, the latest of the first k words xs on it
--   Walk xs links w p            p is 0, or one more than the index of a word on the chain of w, from where links lead
--                                back along it
--   Room xs heads links          there is room for the chains of the words xs, and no word is on one yet
use Rattle.std.specs.Prelude.{◌≡◌, ◌≤◌, ◌<◌, ◌&&◌, ◌∷◌, ◌%◌}
use Rattle.theory.specs.Basics.{Bool, true, not, cond, List, [], length, get_or, Each, every}
use Rattle.theory.specs.Basics.{ℕ, zero, suc, ◌=?◌, ◌<?◌}
use Rattle.theory.specs.Limits.{page_limit}

unfoldable pub all_different : List ℕ → Bool
all_different [] = true
all_different (x ∷ xs) = every (λ y. not (x =? y)) xs && all_different xs

abbrev pub absent : ℕ → List ℕ → Bool
absent w xs = every (λ y. not (w =? y)) xs

abbrev pub few_chains : ℕ
few_chains = 61

abbrev pub many_chains : ℕ
many_chains = 4093

unfoldable pub chain_of : ℕ → ℕ → ℕ
chain_of n w = cond (n <? many_chains) (w % few_chains) (w % many_chains)

unfoldable pub latest : (ℕ → ℕ) → List ℕ → ℕ → ℕ → ℕ
latest f xs h zero = 0
latest f xs h (suc k) = cond (f (get_or xs k 0) =? h) (suc k) (latest f xs h k)

abbrev pub Linked : (ℕ → ℕ) → List ℕ → List ℕ → ℕ → Type 0
Linked f xs links k = (j : ℕ) → j < k → get_or links j 0 ≡ latest f xs (f (get_or xs j 0)) j

pub record Chained (f : ℕ → ℕ) (xs heads links : List ℕ) (k : ℕ) : Type 0 where
  pub headed : (h : ℕ) → h < length heads → get_or heads h 0 ≡ latest f xs h k
  pub linked : Linked f xs links k

pub record Walk (xs links : List ℕ) (w p : ℕ) : Type 0 where
  pub chain : ℕ → ℕ
  pub k : ℕ
  pub within : k ≤ length xs
  pub room : k ≤ length links
  pub linked : Linked chain xs links k
  pub is-latest : p ≡ latest chain xs (chain w) k

pub record Room (xs heads links : List ℕ) : Type 0 where
  pub size : length xs ≤ page_limit
  pub enough : length xs ≤ length links
  pub some : few_chains ≤ length heads
  pub zeros : Each (◌≡ 0) heads
