-- Text in lent bytes. What has no room is left out: the bytes stay as many as they are, and the answer still says where
-- the text ends, so that one function serves to write a text and to learn its length.
--   most                             the greatest number of 64 bits, given for any end beyond it
--   Wrote text at before end after   text written behind the first `at` bytes of before leaves after, and ends at end;
--                                    `sets` leaves out what has no room
use Rattle.std.specs.Prelude.{◌≡◌, min, ◌+◌, ◌-◌, ◌^◌}
use Rattle.std.proofs.lemmas.List.Edits.{sets}
use Rattle.theory.specs.Basics.{List, ℕ, length}
pub mod Laws

abbrev pub most : ℕ
most = 2 ^ 64 - 1

pub record Wrote (text : List ℕ) (at : ℕ) (before : List ℕ) (end : ℕ) (after : List ℕ) : Type 0 where
  pub ends : end ≡ min (at + length text) most
  pub leaves : after ≡ sets before at text
