-- No second outcome meets a contract. Each theorem is of the contract itself, as Rattle reads it (`Reads.Post`): of a
-- value of any type, of numbers and of lists of them.
use Rattle.std.specs.Prelude.{◌≡◌}
use denote.Builtin.{u8, u64, i64}
use denote.Slice.{ShrSlice}
use Rattle.text.specs.Wrote.Laws.{wrote-once}
use Rattle.text.specs.contracts.numbers.U8Written.TheImpl as byte-number
use Rattle.text.specs.contracts.numbers.U64Written.TheImpl as number
use Rattle.text.specs.contracts.numbers.I64Written.TheImpl as signed
use Rattle.text.specs.contracts.lists.RefSliceWritten.TheImpl as list
use Rattle.text.proofs.writing.byte.Reads as byte
use Rattle.text.proofs.writing.put.Reads as put
use Rattle.text.proofs.numbers.U8Written.write.Reads as small
use Rattle.text.proofs.numbers.U64Written.write.Reads as decimal
use Rattle.text.proofs.numbers.I64Written.write.Reads as integer
use Rattle.text.proofs.lists.RefSliceWritten.write.Reads as values
use Rattle.text.proofs.fields.line.Reads as line

pub byte-once : (κs : _) (a : _) (r r' : _) (s s' : _) → byte.Post κs a r s → byte.Post κs a r' s'
    → (r ≡ r') × (s.1.0.now ≡ s'.1.0.now)
byte-once κs a r r' s s' p q = wrote-once p q

pub put-once : (κs : _) (a : _) (r r' : _) (s s' : _) → put.Post κs a r s → put.Post κs a r' s'
    → (r ≡ r') × (s.1.0.now ≡ s'.1.0.now)
put-once κs a r r' s s' p q = wrote-once p q

pub small-once : (κs : _) (a : _) (r r' : _) (s s' : _) → small.Post κs a r s → small.Post κs a r' s'
    → (r ≡ r') × (s.1.0.now ≡ s'.1.0.now)
small-once κs a r r' s s' p q = wrote-once p q

pub decimal-once : (κs : _) (a : _) (r r' : _) (s s' : _) → decimal.Post κs a r s → decimal.Post κs a r' s'
    → (r ≡ r') × (s.1.0.now ≡ s'.1.0.now)
decimal-once κs a r r' s s' p q = wrote-once p q

pub integer-once : (κs : _) (a : _) (r r' : _) (s s' : _) → integer.Post κs a r s → integer.Post κs a r' s'
    → (r ≡ r') × (s.1.0.now ≡ s'.1.0.now)
integer-once κs a r r' s s' p q = wrote-once p q

-- ---- lists
pub any-list-once : (T L C text D K E : _) (κs : _) (a : _) (r r' : _) (s s' : _)
    → values.Post T L C text D K E κs a r s → values.Post T L C text D K E κs a r' s'
    → (r ≡ r') × (s.1.0.now ≡ s'.1.0.now)
any-list-once T L C text D K E κs a r r' s s' p q = wrote-once p q

pub list-once : (L C D K E : _) (κs : _) (a : _) (r r' : _) (s s' : _)
    → values.Post u8 L C byte-number.ghosts D K E κs a r s → values.Post u8 L C byte-number.ghosts D K E κs a r' s'
    → (r ≡ r') × (s.1.0.now ≡ s'.1.0.now)
list-once L C = any-list-once u8 L C byte-number.ghosts

pub values-once : (L C D K E : _) (κs : _) (a : _) (r r' : _) (s s' : _)
    → values.Post i64 L C signed.ghosts D K E κs a r s → values.Post i64 L C signed.ghosts D K E κs a r' s'
    → (r ≡ r') × (s.1.0.now ≡ s'.1.0.now)
values-once L C = any-list-once i64 L C signed.ghosts

-- ---- lines
pub line-once : (T L C text D K E : _) (κs : _) (a : _) (r r' : _) (s s' : _)
    → line.Post T L C text D K E κs a r s → line.Post T L C text D K E κs a r' s'
    → (r ≡ r') × (s.1.1.0.now ≡ s'.1.1.0.now)
line-once T L C text D K E κs a r r' s s' p q = wrote-once p q

pub number-line-once : (L C D K E : _) (κs : _) (a : _) (r r' : _) (s s' : _)
    → line.Post u64 L C number.ghosts D K E κs a r s → line.Post u64 L C number.ghosts D K E κs a r' s'
    → (r ≡ r') × (s.1.1.0.now ≡ s'.1.1.0.now)
number-line-once L C = line-once u64 L C number.ghosts

pub integer-line-once : (L C D K E : _) (κs : _) (a : _) (r r' : _) (s s' : _)
    → line.Post i64 L C signed.ghosts D K E κs a r s → line.Post i64 L C signed.ghosts D K E κs a r' s'
    → (r ≡ r') × (s.1.1.0.now ≡ s'.1.1.0.now)
integer-line-once L C = line-once i64 L C signed.ghosts

module _ (ℓ κ : _) (B M H L C D K E : _) (κs : _) (a : _) (r r' : _) (s s' : _) where
  pub list-line-once : line.Post (ShrSlice ℓ κ u8) L C (list.ghosts u8 byte-number.ghosts B M H) D K E κs a r s
      → line.Post (ShrSlice ℓ κ u8) L C (list.ghosts u8 byte-number.ghosts B M H) D K E κs a r' s'
      → (r ≡ r') × (s.1.1.0.now ≡ s'.1.1.0.now)
  list-line-once p q = wrote-once p q

  pub values-line-once : line.Post (ShrSlice ℓ κ i64) L C (list.ghosts i64 signed.ghosts B M H) D K E κs a r s
      → line.Post (ShrSlice ℓ κ i64) L C (list.ghosts i64 signed.ghosts B M H) D K E κs a r' s'
      → (r ≡ r') × (s.1.1.0.now ≡ s'.1.1.0.now)
  values-line-once p q = wrote-once p q
