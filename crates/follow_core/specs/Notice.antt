-- What is told of a name from look to look.
use Rattle.std.specs.Prelude.{ℕ, Bool, true, false, List, [], ◌∷◌, ◌++◌, codes}
use Rattle.ports_core.specs.{Text.{in_quotes, tool_name}, declared.tool.Tool.TheVariants.Tail}
use Rattle.follow_core.specs.{
  declared.notice.Notice.{Notice, TheVariants.{Truncated, Replaced, Inaccessible, Appeared}},
  Version.{Entry, version, gap},
  Title.title,
}

abbrev pub notice_words : Notice → List ℕ
notice_words Truncated = codes "file truncated"
notice_words Replaced = codes "file replaced"
notice_words Inaccessible = codes "file inaccessible"
notice_words Appeared = codes "file appeared"

-- a line of `tail` about a name
abbrev pub line_of : List ℕ → List ℕ → List ℕ
line_of words name = tool_name Tail ++ codes ": " ++ in_quotes name ++ codes ": " ++ words ++ codes "\n"

-- the line that tells it
abbrev pub notice_of : Notice → List ℕ → List ℕ
notice_of notice name = line_of (notice_words notice) (title name)

-- the name led nowhere at the first look
abbrev pub is_missing : List Entry → Bool
is_missing [] = false
is_missing (gap ∷ entries) = true
is_missing (version v ∷ entries) = false
