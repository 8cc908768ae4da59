-- No second outcome meets a contract. Each theorem is of the contract itself, as Rattle reads it (`Reads.Post`).
use mathlib.Core.Path.{◌≡◌, ap}
use Rattle.theory.specs.Basics.{List, ℕ, ℤ}
use Rattle.theory.specs.Limits.{degree_limit}
use Rattle.words.specs.Answers.Laws.{one-outcome}
use Rattle.words.proofs.Told.{count-told-once}
use Rattle.pages.specs.Mode.{gathered_mode}
use Rattle.sessions.specs.Opening.{opening_in}
use Rattle.sessions.specs.Step.{preview_in, commit_in}
use Rattle.sessions.proofs.Told.{handed-told-once}
use Rattle.characters.specs.Watch.Answers.{one_answer}
use Rattle.gathered.proofs.open.Reads as open-session
use Rattle.gathered.proofs.preview.Reads as preview-session
use Rattle.gathered.proofs.commit.Reads as commit-session
use Rattle.gathered.proofs.watch.Reads as watch-session

pub open-once : (κs : _) (a : _) (r r' : _) (s s' : _) → open-session.Post κs a r s → open-session.Post κs a r' s'
    → (r ≡ r') × (s.1.1.0.now ≡ s'.1.1.0.now) × (s.1.1.1.0.now ≡ s'.1.1.1.0.now)
open-once κs a r r' s s' p q =
    let (answer, lent) =
    one-outcome
    (opening_in gathered_mode degree_limit a.0 a.1.0 (a.1.1.0.now, a.1.1.1.0.now)) p q in
    (handed-told-once answer, ap (λ (x : List ℕ × List ℤ). x.0) lent, ap (λ (x : List ℕ × List ℤ). x.1) lent)

pub preview-once : (κs : _) (a : _) (r r' : _) (s s' : _) → preview-session.Post κs a r s
    → preview-session.Post κs a r' s' → (r ≡ r') × (s.1.1.1.1.1.0.now ≡ s'.1.1.1.1.1.0.now)
preview-once κs a r r' s s' p q =
    let (answer, left) =
    one-outcome
    (preview_in gathered_mode degree_limit a.0 (a.1.0.now, a.1.1.0.now) a.1.1.1.0 a.1.1.1.1.0
    a.1.1.1.1.1.0.now) p q in
    (count-told-once answer, left)

pub commit-once : (κs : _) (a : _) (r r' : _) (s s' : _) → commit-session.Post κs a r s
    → commit-session.Post κs a r' s'
    → (r ≡ r') × (s.1.0.now ≡ s'.1.0.now) × (s.1.1.0.now ≡ s'.1.1.0.now)
commit-once κs a r r' s s' p q =
    let (answer, lent) =
    one-outcome
    (commit_in gathered_mode degree_limit a.0 (a.1.0.now, a.1.1.0.now) a.1.1.1.0 a.1.1.1.1.0
    a.1.1.1.1.1.0.now) p q in
    (handed-told-once answer, ap (λ (x : List ℕ × List ℤ). x.0) lent, ap (λ (x : List ℕ × List ℤ). x.1) lent)

pub watch-once : (κs : _) (a : _) (r r' : _) (s s' : _) → watch-session.Post κs a r s → watch-session.Post κs a r' s'
    → r ≡ r'
watch-once κs a r r' s s' p q = one_answer r r' _ p q
