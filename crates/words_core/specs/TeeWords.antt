-- What options and operands ask of `tee`.
use Rattle.ports_core.specs.declared.{
  calling.Calling.{Calling, TheVariants.{Cutters, OwnName}},
  on_broken.OnBroken.{OnBroken, TheVariants.{Warn, Signal}},
  slot.Mode.{Mode, TheVariants.{Fresh, Append}},
}
use Rattle.std.specs.Prelude.{ℕ, List}
use Rattle.words_core.specs.{
  declared.{choice.Choice.Choice, spelled.Chosen.Chosen},
  Given.{asked_by, Given, texts_of},
}
use Rattle.words_core.specs.declared.choice.Choice.TheVariants as choice

-- what words ask of `tee`
pub record TeeAsked : Type 0 where
  -- how the files are opened
  pub mode : Mode
  -- what is done once an output is broken
  pub on_broken : OnBroken
  -- the names of the files
  pub names : List (List ℕ)

-- What happens once an output is broken, if no option says it: the run goes on with the outputs that are left; by the
-- tool's own name it ends once the reader of an output is gone.
abbrev pub unless_said : Calling → OnBroken
unless_said Cutters = Warn
unless_said OwnName = Signal

-- what is asked for without options, for these files: they begin empty
abbrev pub fresh : Calling → List (List ℕ) → TeeAsked
fresh calling names = record { mode = Fresh; on_broken = unless_said calling; names = names }

-- what is asked for with one more option; the last option that says what is done once an output is broken decides

abbrev pub tee_by : TeeAsked → Choice → TeeAsked
tee_by asked choice.Append = record asked { mode = Append }
tee_by asked (choice.OnBroken on_broken) = record asked { on_broken = on_broken }
tee_by asked choice = asked

-- what options ask for, for these files
abbrev pub tee_of : Calling → List (List ℕ) → List Chosen → TeeAsked
tee_of calling names options = asked_by tee_by (fresh calling names) options

-- what the words ask for: operands are the names of the files, and `-` is a name like any other
abbrev pub tee_asked : Calling → Given → TeeAsked
tee_asked calling given = tee_of calling (texts_of given.operands) given.options
