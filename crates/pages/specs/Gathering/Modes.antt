-- The two modes agree (document 02, P7): a gathered page is worth what the plain page is from which it can be gathered,
-- and every page that plain calls take can be gathered. Below stands what the column of a gathered page says.
--   GatheredFrom s page t x   t and x, a page and its column, have settled what the plain slip s and its page have, and
--                             have line by line the same sums of signs
--   gathered_slip s n          the slip s in the gathered mode, with n lines
--   joint                     the lines of a plain page, gathered; slip_after and lent_after, slip and lent then
--   Gathered ..               what can be said of these
use Rattle.std.specs.Prelude.{◌≡◌, ◌≤◌, ◌<◌, ◌∷◌, ◌+ℤ◌}
use Rattle.std.proofs.Math.Path.{refl}
use Rattle.std.proofs.Common.{sym, ◌∙◌, ap, ap₂, arith, length-take-le, get_or-take}
use Rattle.std.proofs.lemmas.List.{length-map}
use Rattle.theory.specs.Basics.{List, [], map, length, get_or, take, ℕ, ℤ, pos, every, total, Each}
use Rattle.theory.proofs.Basics.Laws.{both}
use Rattle.theory.specs.Refusals.{first_of}
use Rattle.pages.specs.Line.{Line}
use Rattle.pages.specs.Page.{Slip, line_of, line_at, slip_of, worth}
use Rattle.pages.specs.Mode.{waiting_in, plain_mode, gathered_mode}
use Rattle.pages.specs.Sound.{page_checks_in}
use Rattle.pages.specs.Sound.Laws.{asked, SoundLines, SoundIn}
use Rattle.pages.specs.Gathering.{lasting, gather, distinct, coefficient}
use Rattle.pages.specs.Gathering.Laws.{total-gathered, each-gathered}
use Rattle.pages.specs.Gathering.Sound.{values-gathered, spans-gathered, sound-gathered}
use Rattle.pages.specs.Gathering.Different.{gathered-gather, different-none}
use Rattle.pages.specs.Gathering.Agree.{SameSums, same-sums-gathered, coefficient-at, same-worth}
use Rattle.pages.specs.Lawful.Checks.{passed-page, page-passes}
use Rattle.pages.specs.Lawful.Put.{waiting-put, sound-put}
use Rattle.pages.specs.Lawful.Plain.{plain-lawful}
use Rattle.pages.specs.Lawful.Gathered.{as_long, lent-passes, length-alongside, alongside-at, Roomy}
use Rattle.pages.specs.Lawful.Gathered.{gathered-lawful}

-- ---- the same worth
pub record GatheredFrom (s : Slip) (page : List ℕ) (t : Slip) (x : gathered_mode.Lent) : Type 0 where
  pub same-settled : s.settled ≡ t.settled
  pub same-sums : SameSums (waiting_in plain_mode s page) (waiting_in gathered_mode t x)

pub modes-agree : (s : Slip) (page : List ℕ) (t : Slip) (x : gathered_mode.Lent) → GatheredFrom s page t x
    → worth s (waiting_in plain_mode s page) ≡ worth t (waiting_in gathered_mode t x)
unfolding worth
modes-agree s page t x g =
    ap₂ ◌+ℤ◌ g.same-settled (same-worth (waiting_in plain_mode s page) (waiting_in gathered_mode t x) g.same-sums)

-- ---- a page that is gathered
abbrev pub gathered_slip : Slip → ℕ → Slip
gathered_slip s n = slip_of s.shape s.class s.settled n s.steps 1

-- there are not more lines than were gathered
all_ones : (lines : List Line) → total (map (λ l. 1) lines) ≡ length lines
all_ones [] = refl
all_ones (l ∷ lines) = omega (arith, all_ones lines)

pub length-gathered : (hs : List Line) → length (gather [] hs) ≤ length hs
length-gathered hs =
    omega (arith, all_ones hs, all_ones (gather [] hs), total-gathered (λ l. 1) (λ a b l. omega arith) [] hs)

roomy-lines : (page : List ℕ) → Each Roomy (map line_of page)
roomy-lines [] = tt
roomy-lines (x ∷ page) = (omega arith, roomy-lines page)

module _ (limit : ℕ) (s : Slip) (page : List ℕ) (column : List ℤ) where
  abbrev lines : List Line
  lines = waiting_in plain_mode s page

  abbrev joint : List Line
  joint = gather [] lines

  abbrev pub slip_after : Slip
  slip_after = gathered_slip s (length joint)

  abbrev pub lent_after : gathered_mode.Lent
  lent_after = gathered_mode.put joint (page, column)

  written : Each Roomy joint
  written = each-gathered Roomy (λ l z r. r) [] lines tt (roomy-lines (take s.lines page))

  module _ (plain : SoundIn plain_mode limit s page) where
    fits : length joint ≤ length page
    fits =
        let count = length-map (take s.lines page) line_of in
        omega (arith, length-gathered lines, count, length-take-le s.lines page plain.fit, plain.fit)

    still-sound : SoundLines limit slip_after joint
    still-sound = record {
      words = plain.lines.words;
      each = sound-gathered (asked s) [] lines tt plain.lines.each;
      value = omega (arith, values-gathered [] lines, plain.lines.value);
      forward = plain.lines.forward;
      span = omega (arith, spans-gathered [] lines, plain.lines.span);
    }

    gathered-sound : SoundIn gathered_mode limit slip_after lent_after
    unfolding gathered-lawful
    gathered-sound =
        sound-put gathered-lawful slip_after joint (page, column) refl written limit refl fits
        (gathered-gather [] lines different-none) still-sound

  -- every call takes it, it is as long as the page was, gathered from that page, and of the same session
  pub record Gathered : Type 0 where
    pub passes : first_of (page_checks_in gathered_mode limit slip_after lent_after) ≡ 0
    pub same_length : length lent_after.0 ≡ length page
    pub same_shape : slip_after.shape ≡ s.shape
    pub same_class : slip_after.class ≡ s.class
    pub same-steps : slip_after.steps ≡ s.steps
    pub from : GatheredFrom s page slip_after lent_after

  -- a page that plain calls take, with a column beside it
  pub can-be-gathered : first_of (page_checks_in plain_mode limit s page) ≡ 0 → length page ≡ length column → Gathered
  unfolding gathered-lawful
  can-be-gathered none beside =
      let (lent, plain) = passed-page plain-lawful limit s page none in
      let room = fits plain in
      let before = lent-passes page column (plain-lawful.short page lent) beside in
      record {
        passes =
            page-passes gathered-lawful limit slip_after lent_after
            (gathered-lawful.lent-put joint (page, column) before room) (gathered-sound plain);
        same_length = gathered-lawful.length-put joint (page, column) room;
        same_shape = refl;
        same_class = refl;
        same-steps = refl;
        from = record {
          same-settled = refl;
          same-sums =
              rw (waiting-put gathered-lawful slip_after joint (page, column) refl written) (same-sums-gathered lines);
        };
      }

-- ---- what stands in the column
-- beside each line of a sound page stands what all lines of its shape and class weigh
pub column-coefficient : (limit : ℕ) (slip : Slip) (page : List ℕ) (column : List ℤ)
    → first_of (page_checks_in gathered_mode limit slip (page, column)) ≡ 0 → (i : ℕ) → i < slip.lines
    → let all = waiting_in gathered_mode slip (page, column) in
    coefficient (line_at all i) all ≡ get_or column i (pos 0)
column-coefficient limit slip page column none i there =
    let n : ℕ = slip.lines in
    let lines : List Line = waiting_in gathered_mode slip (page, column) in
    let (lent, s) = passed-page gathered-lawful limit slip (page, column) none in
    let long = length-take-le n page s.fit in
    let beside = length-take-le n column (omega (arith, (as_long page column lent).1, s.fit)) in
    let count = length-alongside (take n page) (take n column) (long ∙ sym beside) in
    coefficient-at lines i (both (distinct lines) (every lasting lines) s.stands).0 (omega (arith, count, long))
    ∙ ap (λ (l : Line). l.weight)
    (alongside-at (take n page) (take n column) i (long ∙ sym beside) (omega (arith, long)))
    ∙ get_or-take n column i (pos 0) there
