-- A text that was saved in a run puts the run back at that save, if it is loaded later on in it: it is the text of that
-- slip and what was lent, so that this is what the load gives, and the steps that it gives are those that counted then.
--   PutBack ..   a load of the text, made at `now` and answered a with y left, is accepted, belongs to the run and puts
--                it back at `then`: slip, what is lent and count are those of then, and what was saved stays saved
use Rattle.std.specs.Prelude.{◌≡◌}
use Rattle.text.specs.Text.{Text}
use Rattle.sessiontext.specs.Calls.{Loaded}
use Rattle.sessionruns.specs.Run.{loaded, Standing, standing, Belongs, after}

pub record PutBack {L : Type 0} (then now : Standing L) (text : Text) (a : Loaded) (y : L) : Type 0 where
  pub accepted : a.refused ≡ 0
  pub belongs : Belongs now.saves (loaded text a y)
  pub back : after now (loaded text a y) ≡ standing then.slip then.lent then.counted now.saves
