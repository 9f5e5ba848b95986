-- What each tool does with its inputs, if words ask for it: POSIX.1-2017, XCU head, tail, split and csplit. Several
-- files for `tail`, headers and their options, bytes, and all but the last are GNU's; so is what `split` does if an
-- input breaks off.
use Rattle.std.specs.{
  Option.unwrap_or,
  Prelude.{ℕ, ◌&&◌, is_none, Bool, true, false, not, List, [], ◌∷◌, length, slice_index_or, codes, Option},
  Prelude.option_map,
}
use Rattle.ports_core.specs.{
  Name.{Naming, numbering_of},
  declared.{
    verdict.Verdict.{Verdict, TheVariants.{Changed, NoMatch, Range}},
    calling.{Calling.Calling, Speaker.Speaker},
    tool.Tool.Tool,
  },
}
use Rattle.engine_core.specs.Work.{Needs}
use Rattle.ends_core.specs.Shown.{head_in, tail_in}
use Rattle.split_core.specs.{ChunkWork.way_work, Split.Filing}
use Rattle.csplit_core.specs.Csplit.{csplit_work}
use Rattle.operand_core.specs.declared.operand.Operand.{Operand}
use Rattle.run_core.specs.Task.{Task}
use Rattle.words_core.specs.{
  declared.settings.Settings.{Settings, TheVariants.{Head, Tail, Split, Csplit, Tee, About}},
  CsplitWords.CsplitAsked,
  EndsWords.{EndsAsked, is_minus, is_plus, has_headers},
  SplitWords.SplitAsked,
}
use Rattle.ports_core.specs.declared.tool.Tool.TheVariants as tool

-- a tool, and how it was called
abbrev pub by : Calling → Tool → Speaker
by calling tool = record { calling = calling; tool = tool }

-- what the message of a verdict names: the input, if the input changed
abbrev pub changed_of : Verdict → List ℕ → List ℕ
changed_of Changed name = name
changed_of verdict name = []

-- memory is needed for what waits, unless the input shows its bytes
abbrev pub waits_unless : Option (List ℕ) → Bool → Needs
waits_unless shown waits = record { memory = waits && is_none shown; files = false }

-- the task of `head`: the first lines or bytes; with a `-` before the count, all but the last
abbrev pub head_task : Calling → EndsAsked → Task
head_task calling asked = record {
  speaker = by calling tool.Head;
  work = head_in asked.delim asked.unit (is_minus asked.count.sign) asked.count.amount;
  opening = λ shown. waits_unless shown (is_minus asked.count.sign);
  subject = changed_of;
  with_header = has_headers asked.headers asked.names;
}

-- the task of `tail`: the last lines or bytes; with a `+` before the count, all from this number on
abbrev pub tail_task : Calling → EndsAsked → Task
tail_task calling asked = record {
  speaker = by calling tool.Tail;
  work = tail_in asked.delim asked.unit (is_plus asked.count.sign) asked.count.amount;
  opening = λ shown. waits_unless shown (not (is_plus asked.count.sign));
  subject = changed_of;
  with_header = has_headers asked.headers asked.names;
}

-- the names of the files of `split`
abbrev pub naming_of : SplitAsked → Naming
naming_of asked = record {
  prefix = asked.prefix;
  numbering = numbering_of asked.alphabet asked.width asked.auto (unwrap_or asked.from 0);
  ending = asked.ending;
}

-- how the files of `split` are made
abbrev pub filing_of : SplitAsked → Filing
filing_of asked = record { names = naming_of asked; verbose = asked.verbose }

-- The task of `split`: the input cut into files, or what one file would have. The work may depend on the length of what
-- the input shows.
abbrev pub split_task : Calling → SplitAsked → Task
split_task calling asked = record {
  speaker = by calling tool.Split;
  work = λ shown. way_work asked.way asked.elide (filing_of asked) (option_map length shown);
  opening = λ shown. record { memory = true; files = true };
  subject = changed_of;
  with_header = false;
}

-- the operand that the message of a verdict names, as its word
abbrev pub operand_of : List (List ℕ) → Verdict → List ℕ
operand_of operands (NoMatch operand repetition) = slice_index_or operands operand []
operand_of operands (Range operand repetition) = slice_index_or operands operand []
operand_of operands verdict = []

-- the task of `csplit`: the input cut into files at lines that these operands find, which its words ask for
abbrev pub csplit_task : Calling → CsplitAsked → List Operand → Task
csplit_task calling asked operands = record {
  speaker = by calling tool.Csplit;
  work = λ shown. csplit_work asked.style operands;
  opening = λ shown. record { memory = true; files = true };
  subject = λ verdict name. operand_of asked.operands verdict;
  with_header = false;
}

-- The names of the inputs. `tee` reads only standard input. Help and the version read no input.
abbrev pub names_of : Settings → List (List ℕ)
names_of (Head asked) = asked.names
names_of (Tail asked) = asked.ends.names
names_of (Split asked) = asked.input ∷ []
names_of (Csplit asked) = asked.input ∷ []
names_of (Tee asked) = codes "-" ∷ []
names_of (About tool topic) = []

-- the tool that settings are for
abbrev pub tool_of : Settings → Tool
tool_of (Head asked) = tool.Head
tool_of (Tail asked) = tool.Tail
tool_of (Split asked) = tool.Split
tool_of (Csplit asked) = tool.Csplit
tool_of (Tee asked) = tool.Tee
tool_of (About tool topic) = tool

-- the tool from which messages of a run come, and how it was called
abbrev pub speaker_of : Calling → Settings → Speaker
speaker_of calling settings = by calling (tool_of settings)
