-- What it tells that a line of text is of its form, and that no line is at fault: the tests as records, there and back.
--   Fronted front ts        the first of the lines ts are those of front
--   Number name bound t     is_number name bound t, as a record; Integer, InLimit, Listed and WaitingBy, so too
--   FormedBy f limit text   fault_by f limit text ≡ 0, as a record
--   Waiting, Formed         these by the plain form
--   plain-at-1, gathered-at-1   a text of the one mode is at fault at line 1 by the form of the other
use Rattle.std.specs.Prelude.{◌≡◌, ◌≤◌, ◌<◌, ◌&&◌, ◌∷◌, ◌++◌, ◌+◌, ◌^◌}
use Rattle.std.proofs.Math.Path.{refl}
use Rattle.std.proofs.Common.{◌∙◌, add-suc, arith}
use borrow.Author.Tests.{ltb-true, lt-ltb, leb-true, le-leb, eqb-true, eq-eqb, not-false}
use Rattle.theory.specs.Basics.{Bool, true, false, List, [], length, get_or, drop, ℕ, suc}
use Rattle.theory.specs.Basics.{◌<?◌, ◌≤?◌, same, Each}
use Rattle.theory.proofs.Basics.Laws.{both, same_lists, same_self}
use Rattle.theory.specs.Partition.{Parts, is_partition, degree}
use Rattle.theory.specs.Refusals.{Check, first_of}
use Rattle.theory.specs.Refusals.Laws.{Numbered}
use Rattle.theory.proofs.Refusals.Laws.{none-applies, both-pass, first_passes}
use Rattle.text.specs.Text.{Text, ascii, decimal, integer, list_text, text_line, field}
use Rattle.textreading.specs.Reading.{number_in, integer_in, list_in, lines_of}
use Rattle.sessiontext.specs.SessionText.{held, Form, plain_form, gathered_form, weighted_text}
use Rattle.sessiontext.specs.Reading.{in_limit, is_number, is_integer, is_list, shape_in, class_in, front_faults}
use Rattle.sessiontext.specs.Reading.{weight_by, is_waiting_by, at_by, following_by, line_faults_by, head_faults_by}
use Rattle.sessiontext.specs.Reading.{faults_by, fault_by}

-- ---- the lines in front are these
abbrev pub Fronted : List Text → List Text → Type 0
Fronted [] ts = Unit {0}
Fronted (line ∷ front) ts = (get_or ts 0 [] ≡ line) × Fronted front (drop 1 ts)

-- ---- lines of text
pub record Number (name : Text) (bound : ℕ) (t : Text) : Type 0 where
  pub small : number_in t < bound
  pub whole : t ≡ text_line name (decimal (number_in t))

pub record Integer (name t : Text) : Type 0 where
  pub fits : held (integer_in t) ≡ true
  pub whole : t ≡ text_line name (integer (integer_in t))

pub record InLimit (limit : ℕ) (ps : Parts) : Type 0 where
  pub partition : is_partition ps ≡ true
  pub small : degree ps ≤ limit

pub record Listed (limit : ℕ) (name t : Text) : Type 0 where
  pub within : InLimit limit (list_in t)
  pub whole : t ≡ text_line name (list_text (list_in t))

pub record WaitingBy (f : Form) (limit : ℕ) (t : Text) : Type 0 where
  pub fits : f.fits (weight_by f t) ≡ true
  pub shape : InLimit limit (shape_in t)
  pub class : InLimit limit (class_in t)
  pub whole : t ≡ weighted_text (f.weight_text (weight_by f t)) (shape_in t) (class_in t)

abbrev pub Waiting : ℕ → Text → Type 0
Waiting limit t = WaitingBy plain_form limit t

pub self : {t u : Text} → t ≡ u → same t u ≡ true
self {t} e = rw (← e) (same_self t)

pub is-number : (name : Text) (bound : ℕ) (t : Text) → is_number name bound t ≡ true → Number name bound t
unfolding is_number
is-number name bound t e =
    let b = both (number_in t <? bound) _ e in
    record { small = ltb-true (number_in t) bound b.0; whole = same_lists t _ b.1 }

pub number_is : {name : Text} {bound : ℕ} {t : Text} → Number name bound t → is_number name bound t ≡ true
unfolding is_number
number_is {name} {bound} {t} n = rw (lt-ltb (number_in t) bound n.small) (self n.whole)

pub is-integer : (name t : Text) → is_integer name t ≡ true → Integer name t
unfolding is_integer
is-integer name t e =
    let b = both (held (integer_in t)) _ e in
    record { fits = b.0; whole = same_lists t _ b.1 }

pub integer-is : {name t : Text} → Integer name t → is_integer name t ≡ true
unfolding is_integer
integer-is n = rw n.fits (self n.whole)

pub in-limit : (limit : ℕ) (ps : Parts) → in_limit limit ps ≡ true → InLimit limit ps
in-limit limit ps e =
    let b = both (is_partition ps) (degree ps ≤? limit) e in
    record { partition = b.0; small = leb-true (degree ps) limit b.1 }

pub limit-in : {limit : ℕ} {ps : Parts} → InLimit limit ps → in_limit limit ps ≡ true
limit-in {limit} {ps} i = rw (i.partition, le-leb (degree ps) limit i.small)

pub is-list : (limit : ℕ) (name t : Text) → is_list limit name t ≡ true → Listed limit name t
unfolding is_list
is-list limit name t e =
    let b = both (in_limit limit (list_in t)) _ e in
    record { within = in-limit limit (list_in t) b.0; whole = same_lists t _ b.1 }

pub list-is : {limit : ℕ} {name t : Text} → Listed limit name t → is_list limit name t ≡ true
unfolding is_list
list-is {limit} {name} {t} l = rw (limit-in l.within) (self l.whole)

module _ (f : Form) (limit : ℕ) (t : Text) where
  pub is-waiting : is_waiting_by f limit t ≡ true → WaitingBy f limit t
  unfolding is_waiting_by
  is-waiting e =
      let c = both (f.fits (weight_by f t)) _ e in
      let b = both (in_limit limit (shape_in t) && in_limit limit (class_in t)) _ c.1 in
      let a = both (in_limit limit (shape_in t)) (in_limit limit (class_in t)) b.0 in
      record {
        fits = c.0;
        shape = in-limit limit (shape_in t) a.0;
        class = in-limit limit (class_in t) a.1;
        whole = same_lists t _ b.1;
      }

  pub waiting-is : WaitingBy f limit t → is_waiting_by f limit t ≡ true
  unfolding is_waiting_by
  waiting-is w = rw (w.fits, limit-in w.shape, limit-in w.class) (self w.whole)

-- ---- a text
pub record FormedBy (f : Form) (limit : ℕ) (text : Text) : Type 0 where
  pub front : Fronted f.front (lines_of text)
  pub degree-line : Number (ascii "degree=") (2 ^ 64) (at_by f text 0)
  pub degrees : number_in (at_by f text 0) ≡ degree (list_in (at_by f text 1))
  pub shape : Listed limit (ascii "shape=") (at_by f text 1)
  pub class : Listed limit (ascii "class=") (at_by f text 2)
  pub steps : Number (ascii "steps=") (2 ^ 63) (at_by f text 3)
  pub settled : Integer (ascii "settled=") (at_by f text 4)
  pub count : at_by f text 5 ≡ field "lines=" (decimal (length (following_by f text)))
  pub lines : Each (WaitingBy f limit) (following_by f text)

-- ---- the lines in front
numbered-front : (k : ℕ) (front ts : List Text) → Numbered (front_faults (suc k) front ts)
numbered-front k [] ts = refl
numbered-front k (line ∷ front) ts = rw (lt-ltb 0 (suc k) (omega arith)) (numbered-front (suc k) front (drop 1 ts))

is-fronted : (k : ℕ) (front ts : List Text) → Each (λ row. row.0 ≡ false) (front_faults k front ts) → Fronted front ts
is-fronted k [] ts e = tt
is-fronted k (line ∷ front) ts e =
    (same_lists _ line (not-false _ e.0), is-fronted (suc k) front (drop 1 ts) e.1)

no-front-fault : (k : ℕ) (front ts : List Text) → Fronted front ts → first_of (front_faults k front ts) ≡ 0
no-front-fault k [] ts e = refl
no-front-fault k (line ∷ front) ts e =
    rw (self e.0) (no-front-fault (suc k) front (drop 1 ts) e.1)

module _ (f : Form) (limit : ℕ) where
  numbered : (k : ℕ) (ts : List Text) → Numbered (line_faults_by f limit (suc k) ts)
  numbered k [] = refl
  numbered k (t ∷ ts) = rw (lt-ltb 0 (suc k) (omega arith)) (numbered (suc k) ts)

  all-waiting : (k : ℕ) (ts : List Text) → Each (λ row. row.0 ≡ false) (line_faults_by f limit k ts)
      → Each (WaitingBy f limit) ts
  all-waiting k [] e = tt
  all-waiting k (t ∷ ts) e =
      (is-waiting f limit t (not-false (is_waiting_by f limit t) e.0), all-waiting (suc k) ts e.1)

  pub no-line-fault : (k : ℕ) (ts : List Text) → Each (WaitingBy f limit) ts → first_of (line_faults_by f limit k ts) ≡ 0
  no-line-fault k [] e = refl
  no-line-fault k (t ∷ ts) e = rw (waiting-is f limit t e.0) (no-line-fault (suc k) ts e.1)

  module _ (text : Text) where
    abbrev n : ℕ
    n = length f.front

    abbrev shape-formed : Bool
    shape-formed = is_list limit (ascii "shape=") (at_by f text 1)

    abbrev heads : List Check
    heads = head_faults_by f limit text

    abbrev rest : List Check
    rest = line_faults_by f limit (n + 7) (following_by f text)

    numbered-rest : Numbered rest
    numbered-rest = rw (add-suc n 6) (numbered (n + 6) (following_by f text))

    numbered-heads : Numbered heads
    numbered-heads = rw (
      lt-ltb 0 (n + 1) (omega arith),
      lt-ltb 0 (n + 2) (omega arith),
      lt-ltb 0 (n + 3) (omega arith),
      lt-ltb 0 (n + 4) (omega arith),
      lt-ltb 0 (n + 5) (omega arith),
      lt-ltb 0 (n + 6) (omega arith),
    ) refl

    pub formed : fault_by f limit text ≡ 0 → FormedBy f limit text
    unfolding fault_by faults_by
    formed e =
        let front : List Check = front_faults 1 f.front (lines_of text) in
        let (in-front, behind) = both-pass front (heads ++ rest) (numbered-front 0 f.front (lines_of text)) e in
        let (head, after) = both-pass heads rest numbered-heads behind in
        let a = none-applies heads numbered-heads head in
        let s = not-false shape-formed a.1.1.0 in
        let d = rw s at a.1.0 in
        let h = a.1.1.1 in
        record {
          front =
              is-fronted 1 f.front (lines_of text)
              (none-applies front (numbered-front 0 f.front (lines_of text)) in-front);
          degree-line = is-number _ _ _ (not-false _ a.0);
          degrees = eqb-true _ _ (not-false _ d);
          shape = is-list limit _ _ s;
          class = is-list limit _ _ (not-false _ h.0);
          steps = is-number _ _ _ (not-false _ h.1.0);
          settled = is-integer _ _ (not-false _ h.1.1.0);
          count = same_lists _ _ (not-false _ h.1.1.1.0);
          lines = all-waiting (n + 7) (following_by f text) (none-applies rest numbered-rest after);
        }

    pub no-fault : FormedBy f limit text → fault_by f limit text ≡ 0
    unfolding fault_by faults_by
    no-fault g =
        first_passes (front_faults 1 f.front (lines_of text)) (heads ++ rest)
        (numbered-front 0 f.front (lines_of text))
        (no-front-fault 1 f.front (lines_of text) g.front)
        ∙ rw (
          number_is g.degree-line,
          eq-eqb _ _ g.degrees,
          list-is g.shape,
          list-is g.class,
          number_is g.steps,
          integer-is g.settled,
          self g.count,
        ) (no-line-fault (n + 7) (following_by f text) g.lines)

-- ---- by the plain form
abbrev pub Formed : ℕ → Text → Type 0
Formed limit text = FormedBy plain_form limit text

-- ---- no text is of both forms
module _ (limit : ℕ) (text : Text) where
  abbrev first-line : Text
  first-line = get_or (lines_of text) 0 []

  abbrev mode-line : Text
  mode-line = field "mode=" (ascii "gathered")

  -- the line of the mode is no line of a degree
  no-degree : is_number (ascii "degree=") (2 ^ 64) mode-line ≡ false
  unfolding is_number
  no-degree = never (number_in mode-line <? 2 ^ 64)
    where
      never : (b : Bool) → (b && false) ≡ false
      never true = refl
      never false = refl

  plain-fault : same first-line mode-line ≡ true → fault_by plain_form limit text ≡ 1
  unfolding fault_by faults_by
  plain-fault e = rw (same_lists first-line mode-line e, no-degree) refl

  gathered-fault : same first-line mode-line ≡ false → fault_by gathered_form limit text ≡ 1
  unfolding fault_by faults_by
  gathered-fault e = rw e refl

  pub plain-at-1 : fault_by gathered_form limit text ≡ 0 → fault_by plain_form limit text ≡ 1
  plain-at-1 none = go (same first-line mode-line) refl
    where
      go : (b : Bool) → same first-line mode-line ≡ b → fault_by plain_form limit text ≡ 1
      go true e = plain-fault e
      go false e = absurd (omega (arith, none, gathered-fault e))

  pub gathered-at-1 : fault_by plain_form limit text ≡ 0 → fault_by gathered_form limit text ≡ 1
  gathered-at-1 none = go (same first-line mode-line) refl
    where
      go : (b : Bool) → same first-line mode-line ≡ b → fault_by gathered_form limit text ≡ 1
      go true e = absurd (omega (arith, none, plain-fault e))
      go false e = gathered-fault e
