-- What contracts see of a stage that deals lines in turn.
use Rattle.std.specs.Prelude.{ℕ, Bool}
use Rattle.split_core.specs.FilesState.{FilesState}

pub record RoundState : Type 0 where
  -- the byte that lines end with
  pub delim : ℕ
  -- how many files there are to be
  pub count : ℕ
  -- whether files are opened at their first byte, and not all at the start
  pub elide : Bool
  -- the files that are open
  pub files : FilesState
  -- the place of the file that the next byte goes to
  pub next : ℕ
