-- What contracts see of the files that lines are dealt to.
use Rattle.std.specs.Prelude.{ℕ, List}
use Rattle.engine_core.specs.declared.{file_writer.Tells.Tells, names.Names.Names}
use Rattle.split_core.specs.Split.{Filing, is_verbose}

pub record FilesState : Type 0 where
  -- the names of files, and how many names were drawn
  pub names : Names
  -- what standard output gets about files
  pub tells : Tells
  -- the slots of the open files, in order
  pub outputs : List ℕ

-- how these files are made
abbrev pub filing_in : FilesState → Filing
filing_in files = record { names = files.names.naming; verbose = is_verbose files.tells }
