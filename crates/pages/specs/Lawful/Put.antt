-- Sound lines written down where there is room for them, with zeros after them, are sound.
use Rattle.std.specs.Prelude.{◌≡◌, ◌≤◌}
use Rattle.theory.specs.Basics.{true, List, length, ℕ, Each}
use Rattle.pages.specs.Line.{Line}
use Rattle.pages.specs.Page.{Slip}
use Rattle.pages.specs.Mode.{Mode, waiting_in}
use Rattle.pages.specs.Sound.Laws.{SoundLines, SoundIn}
use Rattle.pages.specs.Lawful.{Lawful}

module _ {m : Mode} (law : Lawful m) (slip : Slip) (lines : List Line) (x : m.Lent)
    (count : slip.lines ≡ length lines) (written : Each law.Written lines) where
  pub waiting-put : waiting_in m slip (m.put lines x) ≡ lines
  waiting-put = rw count (law.waits-put lines x written)

  pub sound-put : (limit : ℕ) → slip.mode ≡ m.number → length lines ≤ length (m.page x) → m.stands lines ≡ true
      → SoundLines limit slip lines → SoundIn m limit slip (m.put lines x)
  sound-put limit says room stands s = record {
    mode = says;
    fit = rw (count, law.length-put lines x room) room;
    idle = rw count (law.idle-put lines x);
    stands = rw waiting-put stands;
    lines = rw waiting-put s;
  }
