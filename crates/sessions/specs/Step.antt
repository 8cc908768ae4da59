-- A step in its two halves (document 01, "A step names a line and a cycle"; document 02, P3, "Preview apart from
-- commit"; P7, "Each hook brings the chosen line's coefficient times its own sign"; a refused commit hands back the
-- slip that it was given), in a mode m; without `_in`, in the plain mode.
--   settled_hooks cycle l     the hook lines of l that have the empty shape; waiting_hooks cycle l, the others
--   next_lines_in m lines i c  line i is taken out, later lines move down, its hook lines that wait come to the others
--   next_slip_in m s lines i c the weights of its hooks that leave the empty shape come to settled, steps rise by one
--   named_checks_in ..         the checks of a line and a cycle that are named
--   new_lines_in ..            the new lines of a named line and cycle, in hook order, as a strip has them
--   preview_in ..             what a preview answers, and the strip that it leaves
--   commit_checks_in ..        the checks of a commit, by the strip that it is handed
--   finished_in m k ..        refused with the number k, or for 0 the slip after the step, and what is lent after it
--   commit_in ..              what a commit answers, and what it leaves of what is lent
use Rattle.std.specs.Prelude.{◌∷◌, ◌++◌, ◌+ℤ◌}
use Rattle.theory.specs.Basics.{Bool, not, List, [], map, length, take, drop, ℕ, suc, pos, ◌=?◌, keep}
use Rattle.theory.specs.Basics.{sum}
use Rattle.theory.specs.ClassWord.{class_of}
use Rattle.theory.specs.Refusals.{Check, first_of, refused_or, no-8, no_9, no-10, no-18, no-19}
use Rattle.words.specs.Answers.{CountAnswer}
use Rattle.words.specs.Answers.{written}
use Rattle.pages.specs.Line.{Line, hook_lines}
use Rattle.pages.specs.declared.Slip.{Slip}
use Rattle.pages.specs.Page.{word_of, line_at, slip_of}
use Rattle.pages.specs.Mode.{Mode, waiting_in, plain_mode}
use Rattle.pages.specs.Sound.{page_checks_in}
use Rattle.sessions.specs.Opening.{handed, Handed}

abbrev pub empty : Line → Bool
empty l = l.shape =? 0

abbrev pub settled_hooks : ℕ → Line → List Line
settled_hooks cycle l = keep empty (hook_lines cycle l)

abbrev pub waiting_hooks : ℕ → Line → List Line
waiting_hooks cycle l = keep (λ h. not (empty h)) (hook_lines cycle l)

-- ---- in any mode
module _ (m : Mode) where
  unfoldable pub next_lines_in : List Line → ℕ → ℕ → List Line
  next_lines_in lines i cycle = m.join (take i lines ++ drop (suc i) lines) (waiting_hooks cycle (line_at lines i))

  unfoldable pub next_slip_in : Slip → List Line → ℕ → ℕ → Slip
  next_slip_in slip lines i cycle =
      slip_of slip.shape slip.class (slip.settled +ℤ sum (λ h. h.weight) (settled_hooks cycle (line_at lines i)))
      (length (next_lines_in lines i cycle)) (slip.steps +ℤ pos 1) slip.mode

  abbrev pub named_checks_in : ℕ → Slip → m.Lent → ℕ → ℕ → List Check
  named_checks_in limit slip x line cycle =
      page_checks_in m limit slip x
      ++ no-8 slip.lines line ∷ no_9 (class_of (line_at (waiting_in m slip x) line).class) cycle ∷ []

  -- ---- a preview
  abbrev pub new_lines_in : Slip → m.Lent → ℕ → ℕ → List ℕ
  new_lines_in slip x line cycle = map word_of (waiting_hooks cycle (m.own (line_at (waiting_in m slip x) line)))

  unfoldable pub preview_in : ℕ → Slip → m.Lent → ℕ → ℕ → List ℕ → CountAnswer × List ℕ
  preview_in limit slip x line cycle strip =
      written (named_checks_in limit slip x line cycle) no-18 (new_lines_in slip x line cycle) strip

  -- ---- a commit
  abbrev pub commit_checks_in : ℕ → Slip → m.Lent → ℕ → ℕ → List ℕ → List Check
  commit_checks_in limit slip x line cycle strip =
      named_checks_in limit slip x line cycle
      ++ no-19 (new_lines_in slip x line cycle) strip
      ∷ no-10 (next_lines_in (waiting_in m slip x) line cycle) (m.page x) ∷ []

  abbrev pub finished_in : ℕ → Slip → m.Lent → ℕ → ℕ → Handed × m.Lent
  finished_in k slip x line cycle =
      refused_or k (λ k. (handed k slip, x))
      (handed 0 (next_slip_in slip lines line cycle), m.put (next_lines_in lines line cycle) x)
    where
      lines : List Line
      lines = waiting_in m slip x

  unfoldable pub commit_in : ℕ → Slip → m.Lent → ℕ → ℕ → List ℕ → Handed × m.Lent
  commit_in limit slip x line cycle strip =
      finished_in (first_of (commit_checks_in limit slip x line cycle strip)) slip x line cycle

-- ---- in the plain mode
abbrev pub next_lines : List Line → ℕ → ℕ → List Line
next_lines lines i cycle = next_lines_in plain_mode lines i cycle

abbrev pub next_slip : Slip → List Line → ℕ → ℕ → Slip
next_slip slip lines i cycle = next_slip_in plain_mode slip lines i cycle

abbrev pub named_checks : ℕ → Slip → List ℕ → ℕ → ℕ → List Check
named_checks limit slip page line cycle = named_checks_in plain_mode limit slip page line cycle

abbrev pub new_lines : Slip → List ℕ → ℕ → ℕ → List ℕ
new_lines slip page line cycle = new_lines_in plain_mode slip page line cycle

abbrev pub preview : ℕ → Slip → List ℕ → ℕ → ℕ → List ℕ → CountAnswer × List ℕ
preview limit slip page line cycle strip = preview_in plain_mode limit slip page line cycle strip

abbrev pub commit_checks : ℕ → Slip → List ℕ → ℕ → ℕ → List ℕ → List Check
commit_checks limit slip page line cycle strip = commit_checks_in plain_mode limit slip page line cycle strip

abbrev pub finished : ℕ → Slip → List ℕ → ℕ → ℕ → Handed × List ℕ
finished k slip page line cycle = finished_in plain_mode k slip page line cycle

abbrev pub commit : ℕ → Slip → List ℕ → ℕ → ℕ → List ℕ → Handed × List ℕ
commit limit slip page line cycle strip = commit_in plain_mode limit slip page line cycle strip
