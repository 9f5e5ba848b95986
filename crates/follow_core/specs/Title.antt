-- Under which text a name is shown, in headers and in messages.
use Rattle.std.specs.Prelude.{ℕ, List, codes, if◌then◌else◌}
use Rattle.watch_core.specs.Watched.{is_input}

-- standard input has no name of its own
abbrev pub title : List ℕ → List ℕ
title name = if is_input name then codes "standard input" else name
