-- No second outcome meets a contract. Each theorem is of the contract itself, as Rattle reads it (`Reads.Post`): of any
-- kind of numbers, and of words and coefficients.
use Rattle.std.specs.Prelude.{◌≡◌, refl}
use Rattle.std.proofs.Common.{sym, ◌∙◌}
use denote.Builtin.{u64, i64}
use Rattle.clearing.specs.contracts.words.U64Zero.TheImpl as words
use Rattle.clearing.specs.contracts.coefficients.I64Zero.TheImpl as coefficients
use Rattle.clearing.proofs.words.U64Zero.is_zero.Reads as word-zero
use Rattle.clearing.proofs.coefficients.I64Zero.is_zero.Reads as coefficient-zero
use Rattle.clearing.proofs.clear.Reads as clear
use Rattle.clearing.proofs.is_clear.Reads as is-clear

pub cleared-once : (T L C zero D K E : _) (κs : _) (a : _) (r r' : _) (s s' : _)
    → clear.Post T L C zero D K E κs a r s → clear.Post T L C zero D K E κs a r' s' → (r ≡ r') × (s.0.now ≡ s'.0.now)
cleared-once T L C zero D K E κs a r r' s s' p q = (refl, p ∙ sym q)

pub clear-once : (T L C zero D K E : _) (κs : _) (a : _) (r r' : _) (s s' : _)
    → is-clear.Post T L C zero D K E κs a r s → is-clear.Post T L C zero D K E κs a r' s' → r ≡ r'
clear-once T L C zero D K E κs a r r' s s' p q = p ∙ sym q

pub words-cleared-once : (L C D K E : _) (κs : _) (a : _) (r r' : _) (s s' : _)
    → clear.Post u64 L C words.ghosts D K E κs a r s → clear.Post u64 L C words.ghosts D K E κs a r' s'
    → (r ≡ r') × (s.0.now ≡ s'.0.now)
words-cleared-once L C = cleared-once u64 L C words.ghosts

pub coefficients-cleared-once : (L C D K E : _) (κs : _) (a : _) (r r' : _) (s s' : _)
    → clear.Post i64 L C coefficients.ghosts D K E κs a r s → clear.Post i64 L C coefficients.ghosts D K E κs a r' s'
    → (r ≡ r') × (s.0.now ≡ s'.0.now)
coefficients-cleared-once L C = cleared-once i64 L C coefficients.ghosts

pub words-idle-once : (L C D K E : _) (κs : _) (a : _) (r r' : _) (s s' : _)
    → is-clear.Post u64 L C words.ghosts D K E κs a r s → is-clear.Post u64 L C words.ghosts D K E κs a r' s' → r ≡ r'
words-idle-once L C = clear-once u64 L C words.ghosts

pub coefficients-idle-once : (L C D K E : _) (κs : _) (a : _) (r r' : _) (s s' : _)
    → is-clear.Post i64 L C coefficients.ghosts D K E κs a r s
    → is-clear.Post i64 L C coefficients.ghosts D K E κs a r' s' → r ≡ r'
coefficients-idle-once L C = clear-once i64 L C coefficients.ghosts

-- ---- whether a number is 0
pub word-zero-once : (κs : _) (a : _) (r r' : _) (s s' : _) → word-zero.Post κs a r s → word-zero.Post κs a r' s'
    → r ≡ r'
word-zero-once κs a r r' s s' p q = p ∙ sym q

pub coefficient-zero-once : (κs : _) (a : _) (r r' : _) (s s' : _) → coefficient-zero.Post κs a r s
    → coefficient-zero.Post κs a r' s' → r ≡ r'
coefficient-zero-once κs a r r' s s' p q = p ∙ sym q
