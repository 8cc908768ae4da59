-- Lines with coefficients that are put down: exactly they are judged, and zeros go behind them.
use Rattle.std.specs.Prelude.{◌&&◌, ◌∷◌, ◌++◌, ◌-◌}
use mathlib.Core.Path.{◌≡◌, refl, sym, ◌∙◌, ap, ap₂}
use mathlib.Core.List.{append-nil}
use Prim.Native.Nat.{◌≤◌, ◌<◌}
use native.Mathlib.Omega.{arith}
use lib.ListN.{length-map, length-drop}
use lib.Seq.{length-sets, take_all}
use borrow.Author.Tests.{eq-eqb, le-leb}
use Rattle.theory.specs.Basics.{Bool, true, false, List, [], map, length, take, drop, replicate}
use Rattle.theory.specs.Basics.{ℕ, ℤ, pos, ◌=?◌, Each}
use Rattle.theory.proofs.Basics.Laws.{each_map}
use Rattle.theory.specs.Digits.{width}
use Rattle.theory.specs.Limits.{degree_limit, page_limit}
use Rattle.theory.specs.Refusals.{first_of, no-7}
use Rattle.theory.proofs.Refusals.Laws.{first_passes}
use Rattle.text.specs.Text.{Text}
use Rattle.pages.specs.declared.Slip.{Slip}
use Rattle.pages.specs.Line.{Line}
use Rattle.pages.specs.Page.{word_of}
use Rattle.pages.specs.Mode.{unit, words_of, weights_of, gathered_mode, waiting_in}
use Rattle.pages.specs.Sound.{sound_with, sound_in, page_checks_in}
use Rattle.pages.specs.Lawful.Gathered.{Roomy, gathered-lawful, lent-passes, read-put, zeros-put}
use Rattle.sessiontext.specs.SessionText.{gathered_form}
use Rattle.sessiontext.specs.SessionText.Faithful.Gathered.{gathered-faithful}
use Rattle.sessiontext.specs.Reading.{line_by, slip_by, lines_by, following_by, line_faults_by, fault_by}
use Rattle.sessiontext.specs.Reading.Forms.{WaitingBy, formed}
use Rattle.sessiontext.specs.Reading.Exact.{line-written}
use Rattle.sessiontext.specs.Private.Weighted.{read_as, PutDown, AllFormed, FrontedHead}
use Rattle.sessiontext.specs.declared.reading.FirstLines.{FirstLines}
use Rattle.textreading.specs.Reading.{lines_of}
use Rattle.sessiontext.proofs.Loading.{put_front, line-fault}

small : degree_limit < width
small = omega arith

three : {a b c d e : Bool} → a ≡ true → b ≡ true → c ≡ true → d ≡ e → a && b && c && d ≡ e
three p q r s = rw (p, q, r, s) refl

verdict : (s : Bool) → first_of (no-7 s ∷ []) =? 0 ≡ s
verdict true = refl
verdict false = refl

module _ (slip : Slip) (ts : List Text) (count : slip.lines ≡ length ts) where
  abbrev lines : List Line
  lines = read_as ts

  its-count : slip.lines ≡ length lines
  its-count = count ∙ sym (length-map ts (line_by gathered_form))

  many-words : slip.lines ≡ length (words_of lines)
  many-words = its-count ∙ sym (length-map (map unit lines) word_of ∙ length-map lines unit)

  many-weights : slip.lines ≡ length (weights_of lines)
  many-weights = its-count ∙ sym (length-map lines (λ l. l.weight))

  module _ {page : List ℕ} {column : List ℤ} {after : List ℕ} {beside : List ℤ} (room : slip.lines ≤ length page)
      (alike : length page ≡ length column) (down : PutDown ts page column after beside) where
    front-words : take slip.lines after ≡ words_of lines
    front-words =
        ap (λ n. take n after) many-words ∙ ap (take (length (words_of lines))) down.words
        ∙ put_front 0 (words_of lines) page (omega (arith, many-words, room))

    front-weights : take slip.lines beside ≡ weights_of lines
    front-weights =
        ap (λ n. take n beside) many-weights ∙ ap (take (length (weights_of lines))) down.weights
        ∙ put_front (pos 0) (weights_of lines) column (omega (arith, many-weights, room, alike))

    -- ---- judging
    module _ (formed : Each (WaitingBy gathered_form degree_limit) ts) (few : slip.lines ≤ page_limit)
        (mode : slip.mode ≡ 1) where
      roomy : Each Roomy lines
      unfolding gathered-faithful gathered-lawful
      roomy =
          each_map (WaitingBy gathered_form degree_limit) Roomy (line_by gathered_form) ts
          (λ t w. line-written degree_limit small gathered-faithful w) formed

      abbrev lent : gathered_mode.Lent
      lent = (words_of lines, weights_of lines)

      exact : gathered_mode.put lines ([], []) ≡ lent
      exact =
          let first : length {A = ℕ} [] - length (map unit lines) ≡ 0 = omega arith in
          let second : length {A = ℤ} [] - length lines ≡ 0 = omega arith in
          ap₂ (λ (a : List ℕ) (b : List ℤ). (a, b))
          (ap (λ (n : ℕ). words_of lines ++ replicate n 0) first ∙ append-nil (words_of lines))
          (ap (λ (n : ℕ). weights_of lines ++ replicate n (pos 0)) second ∙ append-nil (weights_of lines))

      idle : gathered_mode.idle slip.lines lent ≡ true
      idle =
          ap (λ (n : ℕ). gathered_mode.idle n lent) its-count
          ∙ ap (λ (x : gathered_mode.Lent). gathered_mode.idle (length lines) x) (sym exact) ∙ zeros-put lines [] []

      waits : waiting_in gathered_mode slip lent ≡ lines
      waits =
          ap (λ (n : ℕ). gathered_mode.waits n lent) its-count
          ∙ ap (λ (x : gathered_mode.Lent). gathered_mode.waits (length lines) x) (sym exact)
          ∙ read-put lines [] [] roomy

      sound-exact : sound_in gathered_mode degree_limit slip lent ≡ sound_with gathered_mode degree_limit slip lines
      unfolding sound_in
      sound-exact =
          three (eq-eqb slip.mode 1 mode)
          (le-leb slip.lines (length (words_of lines)) (omega (arith, many-words))) idle
          (ap (sound_with gathered_mode degree_limit slip) waits)

      pub judged : {k : ℕ}
          → k ≡ first_of (page_checks_in gathered_mode degree_limit slip
          (take slip.lines after, take slip.lines beside))
          → k =? 0 ≡ sound_with gathered_mode degree_limit slip lines
      judged {k} e =
          let passes = lent-passes (words_of lines) (weights_of lines) (omega (arith, many-words, few))
          (sym many-words ∙ many-weights) in
          let first : k ≡ first_of (no-7 (sound_in gathered_mode degree_limit slip lent) ∷ []) =
          e
          ∙ ap₂ (λ (a : List ℕ) (b : List ℤ). first_of (page_checks_in gathered_mode degree_limit slip (a, b))) front-words
          front-weights
          ∙ first_passes (gathered_mode.lent_checks lent)
          (no-7 (sound_in gathered_mode degree_limit slip lent) ∷ []) refl passes in
          ap (◌=? 0) first ∙ verdict (sound_in gathered_mode degree_limit slip lent) ∙ sound-exact

    -- ---- zeros behind them
    pub put-down : {page' : List ℕ} {column' : List ℤ}
        → page' ≡ take slip.lines after ++ replicate (length after - slip.lines) 0
        → column' ≡ take slip.lines beside ++ replicate (length beside - slip.lines) (pos 0)
        → (page', column') ≡ gathered_mode.put lines (page, column)
    put-down p q =
        let long = length-sets page 0 (words_of lines) in
        let wide = length-sets column 0 (weights_of lines) in
        let words : length after - slip.lines ≡ length page - length (map unit lines) =
        omega (arith, ap length down.words, long, its-count, length-map lines unit) in
        let weights : length beside - slip.lines ≡ length column - length lines =
        omega (arith, ap length down.weights, wide, its-count) in
        ap₂ (λ (a : List ℕ) (b : List ℤ). (a, b))
        (p ∙ ap₂ (λ (a : List ℕ) (n : ℕ). a ++ replicate n 0) front-words words)
        (q ∙ ap₂ (λ (a : List ℤ) (n : ℕ). a ++ replicate n (pos 0)) front-weights weights)

-- ---- what the first seven lines tell
module _ (text : Text) {h : FirstLines} (head : FrontedHead text h) where
  abbrev left : Text
  left = take (length text - h.end) (drop h.end text)

  pub left-whole : left ≡ drop h.end text
  left-whole = take_all (length text - h.end) (drop h.end text) (omega (arith, length-drop h.end text))

  pub left-rest : lines_of left ≡ following_by gathered_form text
  left-rest = ap lines_of left-whole ∙ head.rest

  pub left-lines : read_as (lines_of (drop h.end text)) ≡ lines_by gathered_form text
  unfolding lines_by
  left-lines = ap read_as head.rest

  pub left-count : h.slip.lines ≡ length (following_by gathered_form text)
  unfolding slip_by
  left-count = ap (λ (s : Slip). s.lines) head.slip

  pub lines-count : h.slip.lines ≡ length (lines_by gathered_form text)
  unfolding lines_by
  lines-count = left-count ∙ sym (length-map (following_by gathered_form text) (line_by gathered_form))

  its-mode : h.slip.mode ≡ 1
  unfolding slip_by
  its-mode = ap (λ (s : Slip). s.mode) head.slip

  pub left-fault : {k : ℕ} → k ≡ first_of (line_faults_by gathered_form degree_limit 8 (lines_of left))
      → fault_by gathered_form degree_limit text ≡ k
  left-fault e = line-fault gathered_form text refl head.passes (rw left-rest at e)

  module _ (good : first_of (line_faults_by gathered_form degree_limit 8 (lines_of left)) ≡ 0) where
    pub left-formed : Each (WaitingBy gathered_form degree_limit) (following_by gathered_form text)
    left-formed = (formed gathered_form degree_limit text (left-fault (sym good))).lines

    pub left-taken : (page : List ℕ) → h.slip.lines ≤ length page → length page ≤ page_limit → AllFormed text h.end h.slip
    left-taken page room few = record {
      fits = head.fits;
      formed = rw head.rest left-formed;
      count = rw head.rest left-count;
      few = omega arith;
      mode = its-mode;
    }
