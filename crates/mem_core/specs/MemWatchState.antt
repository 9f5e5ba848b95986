-- What contracts see of a watch in memory.
use Rattle.std.specs.Prelude.{ℕ, zero, suc, Bool, false, List, [], ◌∷◌, ◌++◌, codes, is_some, length, if◌then◌else◌}
use Rattle.watch_core.specs.{
  Snapshot.{Snapshot, clinging, forgiving, insisting, waiting},
  Edits.{Edit, append, bar, truncate, replace, remove, end, World, empty_world, edited_by, is_barred_in, led_to, seen_in},
  Watched.Watched,
}
use Rattle.ports_core.specs.declared.reason.Reason.{Reason, TheVariants.{Missing, Other}}
use Rattle.mem_core.specs.declared.{
  edit.Edit.{Edit as Change},
  mem_watch.{Leading.{Leading, TheVariants.{Plain, Forgiving, Clinging, Keeping}}, Manner.Manner},
}
use Rattle.mem_core.specs.declared.edit.Edit.TheVariants as change

pub record MemWatchState : Type 0 where
  -- the files before the first look, and then at each look that was planned
  pub worlds : List World
  -- how many looks began
  pub turns : ℕ
  pub watched : List Watched
  -- where names lead that can't be read or led elsewhere before, whether missing names fail, and for which reason calls
  -- fail or a name that can't be read is missing
  pub manner : Manner
  -- within how many milliseconds a look begins
  pub within : ℕ

abbrev pub edit_of : Change → Edit
edit_of (change.Append name bytes) = append name.now bytes.now
edit_of (change.Truncate name n) = truncate name.now n
edit_of (change.Replace name bytes) = replace name.now bytes.now
edit_of (change.Remove name) = remove name.now
edit_of (change.End process) = end process
edit_of (change.Bar name is) = bar name.now is

-- the files at look n, counted from 1; after the last look that was planned they stay
abbrev pub world_at : List World → ℕ → World
world_at [] n = empty_world
world_at (world ∷ []) n = world
world_at (world ∷ next ∷ worlds) zero = world
world_at (world ∷ next ∷ worlds) (suc n) = world_at (next ∷ worlds) n

-- what the look of this number sees, from 0, where these are the files at each look
abbrev pub shown_by : Leading → (ℕ → World) → ℕ → Snapshot
shown_by Plain worlds n = seen_in (worlds n)
shown_by Forgiving worlds n = forgiving (seen_in (worlds n))
shown_by Clinging worlds n = clinging (λ look. seen_in (worlds look)) n
shown_by Keeping worlds n = forgiving (clinging (λ look. seen_in (worlds look)) n)

-- why a name is missing in these files, if one that can't be read is so for this reason
abbrev pub missing_in : Reason → World → List ℕ → Reason
missing_in why world name = if is_barred_in world.bars name then why else Missing

abbrev pub shown_in : Manner → List World → ℕ → Snapshot
shown_in manner worlds n =
    let shown = record (shown_by manner.leading (λ look. world_at worlds (suc look)) n)
    { missing = missing_in manner.why (world_at worlds (suc n)) } in
    if manner.insists then insisting shown else shown

-- what the first n looks see
abbrev pub seen_by : Manner → (within : ℕ) → List World → ℕ → List Snapshot
seen_by manner within worlds zero = []
seen_by manner within worlds (suc n) =
    seen_by manner within worlds n ++ waiting within (shown_in manner worlds n) ∷ []

abbrev pub seen : MemWatchState → List Snapshot
seen watch = seen_by watch.manner watch.within watch.worlds watch.turns

abbrev pub shows : MemWatchState → ℕ → Snapshot
shows watch n = waiting watch.within (shown_in watch.manner watch.worlds n)

-- standard input is a file where its name leads to one at the first look
abbrev pub is_fed : MemWatchState → Bool
is_fed watch = is_some (led_to (world_at watch.worlds 1).links (codes "-"))

-- one more look is planned, after these edits
abbrev pub with_look : List Edit → MemWatchState → MemWatchState
with_look edits watch = record watch {
  worlds = watch.worlds
      ++ edited_by edits (world_at watch.worlds (length watch.worlds)) ∷ [];
}

-- names lead where the files say, and one that leads nowhere is missing
abbrev pub plain_manner : Manner
plain_manner = record { leading = Plain; insists = false; why = Other }

-- no name, no file and no look
abbrev pub no_looks : MemWatchState
no_looks = record {
  worlds = empty_world ∷ [];
  turns = 0;
  watched = [];
  manner = plain_manner;
  within = 1000;
}
