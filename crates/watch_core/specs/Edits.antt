-- Files that are edited, and processes that end. If a name leads nowhere, appending, cutting and removing change
-- nothing. A replacement always makes a new file. Whether a name can be read doesn't depend on where it leads. A file
-- to which no name leads any more keeps its bytes.
use Rattle.std.specs.{
  Prelude.{ℕ, ◌==◌, ◌||◌, Bool, true, false, List, [], ◌∷◌, ◌++◌, length, map, take, Option, Some, None},
  Prelude.{slice_index_or, bytes_eq, if◌then◌else◌},
}
use Rattle.ports_core.specs.{Slot.changed_at, declared.reason.Reason.TheVariants.Missing}
use Rattle.watch_core.specs.Snapshot.{Snapshot, forgiving}

pub data Edit : Type 0 where
  -- bytes are appended to the file to which the name leads
  append : List ℕ → List ℕ → Edit
  -- the file to which the name leads keeps its first n bytes, or all if it has fewer
  truncate : List ℕ → ℕ → Edit
  -- from now on the name leads to a new file with these bytes
  replace : List ℕ → List ℕ → Edit
  -- from now on the name leads nowhere
  remove : List ℕ → Edit
  -- the process of this number ends
  end : ℕ → Edit
  -- from now on the name can't be opened or read if the flag is true, and can if it is false
  bar : List ℕ → Bool → Edit

pub record Link : Type 0 where
  pub name : List ℕ
  pub file : Option ℕ

-- whether a name can't be opened or read
pub record Bar : Type 0 where
  pub name : List ℕ
  pub is_barred : Bool

-- The files, each at its identity; where names lead; the processes that ended; and which names can't be read. If there
-- are several links or bars for a name, the first counts.
pub record World : Type 0 where
  pub links : List Link
  pub files : List (List ℕ)
  pub ended : List ℕ
  pub bars : List Bar

abbrev pub empty_world : World
empty_world = record { links = []; files = []; ended = []; bars = [] }

abbrev pub led_to : List Link → List ℕ → Option ℕ
led_to [] name = None
led_to (link ∷ links) name = if bytes_eq link.name name then link.file else led_to links name

-- whether this name can't be opened or read
abbrev pub is_barred_in : List Bar → List ℕ → Bool
is_barred_in [] name = false
is_barred_in (one ∷ bars) name = if bytes_eq one.name name then one.is_barred else is_barred_in bars name

-- what a file holds
abbrev pub held_in : List (List ℕ) → ℕ → List ℕ
held_in files file = slice_index_or files file []

-- the world after a change of what this file holds; without a file, as it was
abbrev pub with_file : Option ℕ → (List ℕ → List ℕ) → World → World
with_file None change world = world
with_file (Some file) change world = record world { files = changed_at file change world.files }

abbrev pub edited : Edit → World → World
edited (append name bytes) world = with_file (led_to world.links name) (λ held. held ++ bytes) world
edited (truncate name n) world = with_file (led_to world.links name) (λ held. take n held) world
edited (replace name bytes) world = record world {
  links = record { name = name; file = Some (length world.files) } ∷ world.links;
  files = world.files ++ bytes ∷ [];
}
edited (remove name) world = record world { links = record { name = name; file = None } ∷ world.links }
edited (end process) world = record world { ended = process ∷ world.ended }
edited (bar name is) world = record world { bars = record { name = name; is_barred = is } ∷ world.bars }

abbrev pub edited_by : List Edit → World → World
edited_by [] world = world
edited_by (edit ∷ edits) world = edited_by edits (edited edit world)

-- whether the process is one of these
abbrev pub is_one : ℕ → List ℕ → Bool
is_one process [] = false
is_one process (other ∷ ended) = (process == other) || is_one process ended

-- what a look sees of a world: its files, and the processes that ended before the look
abbrev pub seen_in : World → Snapshot
seen_in world = record {
  leads = led_to world.links;
  missing = λ name. Missing;
  holds = held_in world.files;
  finds = λ name finding. true;
  barred = is_barred_in world.bars;
  breaks = λ name. true;
  insists = false;
  lacks = λ process. is_one process world.ended;
  within = 1000;
}

-- what a look sees of a world, if it forgives or if it doesn't
abbrev pub shown : (forgives : Bool) → World → Snapshot
shown forgives world = if forgives then forgiving (seen_in world) else seen_in world

-- the world at each look, if one list of edits is made before each look
abbrev pub worlds_from : World → List (List Edit) → List World
worlds_from world [] = []
worlds_from world (edits ∷ looks) = edited_by edits world ∷ worlds_from (edited_by edits world) looks

abbrev pub snapshots_from : (forgives : Bool) → World → List (List Edit) → List Snapshot
snapshots_from forgives world looks = map (shown forgives) (worlds_from world looks)

-- what the looks see; before the first edit there is no file
abbrev pub snapshots_of : (forgives : Bool) → List (List Edit) → List Snapshot
snapshots_of forgives looks = snapshots_from forgives empty_world looks
