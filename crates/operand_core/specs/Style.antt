-- How `csplit` makes files of sections (POSIX.1-2017, XCU csplit, OPTIONS; `-b`, `elide`, `suppress` and `one_past` are
-- GNU's).
use Rattle.std.specs.Prelude.{ℕ, Bool, List}
use Rattle.ports_core.specs.declared.form.Form.{Form}

-- how `csplit` cuts, and how files are made
pub record Style : Type 0 where
  -- what a file's name has before its number and after it, and how the number is written
  pub prefix : List ℕ
  pub form : Form
  pub ending : List ℕ
  -- whether files are kept after a fault
  pub keep : Bool
  -- whether no sizes are written
  pub quiet : Bool
  -- whether an empty section makes no file
  pub elide : Bool
  -- whether the line at a cut is left out
  pub suppress : Bool
  -- whether the cut of a pattern may stand one line past the last
  pub one_past : Bool
