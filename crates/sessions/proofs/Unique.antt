-- No second outcome meets a contract. Each theorem is of the contract itself, as Rattle reads it (`Reads.Post`).
use mathlib.Core.Path.{◌≡◌, sym, ◌∙◌}
use Rattle.theory.specs.Limits.{degree_limit}
use Rattle.words.specs.Answers.Laws.{one-outcome}
use Rattle.words.proofs.Told.{count-told-once, judged-once}
use Rattle.sessions.specs.Opening.{opening}
use Rattle.sessions.specs.Step.{preview, commit}
use Rattle.sessions.proofs.Told.{handed-told-once}
use Rattle.sessions.proofs.RefusedFromRefusal.from.Reads as refused-from
use Rattle.sessions.proofs.open.Reads as open-session
use Rattle.sessions.proofs.page_refusal.Reads as page-refusal
use Rattle.sessions.proofs.preview.Reads as preview-session
use Rattle.sessions.proofs.commit.Reads as commit-session

pub refused-from-once : (κs : _) (a : _) (r r' : _) (s s' : _) → refused-from.Post κs a r s
    → refused-from.Post κs a r' s' → r ≡ r'
refused-from-once κs a r r' s s' p q = p ∙ sym q

pub open-once : (κs : _) (a : _) (r r' : _) (s s' : _) → open-session.Post κs a r s → open-session.Post κs a r' s'
    → (r ≡ r') × (s.1.1.0.now ≡ s'.1.1.0.now)
open-once κs a r r' s s' p q =
    let (same, left) = one-outcome (opening degree_limit a.0 a.1.0 a.1.1.0.now) p q in
    (handed-told-once same, left)

pub page-refusal-once : (κs : _) (a : _) (r r' : _) (s s' : _) → page-refusal.Post κs a r s
    → page-refusal.Post κs a r' s' → r ≡ r'
page-refusal-once κs a r r' s s' p q = judged-once (p ∙ sym q)

pub preview-once : (κs : _) (a : _) (r r' : _) (s s' : _) → preview-session.Post κs a r s
    → preview-session.Post κs a r' s' → (r ≡ r') × (s.1.1.1.1.0.now ≡ s'.1.1.1.1.0.now)
preview-once κs a r r' s s' p q =
    let (same, left) = one-outcome (preview degree_limit a.0 a.1.0.now a.1.1.0 a.1.1.1.0 a.1.1.1.1.0.now) p q in
    (count-told-once same, left)

pub commit-once : (κs : _) (a : _) (r r' : _) (s s' : _) → commit-session.Post κs a r s
    → commit-session.Post κs a r' s' → (r ≡ r') × (s.1.0.now ≡ s'.1.0.now)
commit-once κs a r r' s s' p q =
    let (same, left) = one-outcome (commit degree_limit a.0 a.1.0.now a.1.1.0 a.1.1.1.0 a.1.1.1.1.0.now) p q in
    (handed-told-once same, left)
