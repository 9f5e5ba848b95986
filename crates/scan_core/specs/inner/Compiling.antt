-- Going over a pattern's tokens from the last to the first: what one token does.
use Rattle.std.specs.Prelude.{◌≡◌, ℕ, zero, suc, List, [], ◌∷◌, ◌++◌, length, reverse, Option, Some, None, All}
use Rattle.bre_core.specs.declared.token.Token.{Token, TheVariants.{Set, Front, End, Open, Close, Repeat}}
use Rattle.scan_core.specs.{
  declared.{
    compile.{Compiling.Compiling, Pending.{Pending, TheVariants.{Group, Repeated}}},
    emit.Duplication.Duplication,
    node.Node.{Node, TheVariants.{Take, First, Last, Back}},
  },
  inner.Backwards.{HasBegun, Repeats},
}

-- a duplication that waits for its item has a place for it among the nodes
abbrev pub Waits : ℕ → Pending → Type 0
Waits size Group = Unit {0}
Waits size (Repeated duplication) = HasBegun duplication.high duplication.low duplication.start size

abbrev pub AreBegun : Compiling → Type 0
AreBegun compiling = All (Waits (length compiling.nodes.items)) compiling.pending.items

-- the parts of the state are these
pub record IsNow (written : List Node) (waiting : List Pending) (depth : Option ℕ) (new : Compiling) : Type 0 where
  pub nodes : new.nodes.items ≡ written
  pub pending : new.pending.items ≡ waiting
  pub passing : new.passing ≡ depth

-- An item is complete after these nodes. The duplications that wait for it are written out from the first of this list
-- to the last, the innermost first.
abbrev pub FinishesBy : List Pending → List Node → Compiling → Type 0
FinishesBy [] nodes new = IsNow nodes [] None new
FinishesBy (Group ∷ stack) nodes new = IsNow nodes (reverse (Group ∷ stack)) None new
FinishesBy (Repeated duplication ∷ stack) nodes new = (written : List Node) × Repeats duplication nodes written
    × FinishesBy stack written new

abbrev pub Finishes : List Node → List Pending → Compiling → Type 0
Finishes nodes pending new = FinishesBy (reverse pending) nodes new

-- a duplication begins; if it asks for its item 0 times, the item is passed over
abbrev pub Begins : ℕ → Option ℕ → (old new : Compiling) → Type 0
Begins low None old new = IsNow (old.nodes.items ++ Back 0 ∷ [])
    (old.pending.items ++ Repeated (record { start = length old.nodes.items; low = low; high = None }) ∷ []) None new
Begins low (Some zero) old new = IsNow old.nodes.items old.pending.items (Some 0) new
Begins low (Some (suc high)) old new =
    IsNow old.nodes.items (old.pending.items
    ++ Repeated (record { start = length old.nodes.items; low = low; high = Some (suc high) }) ∷ []) None new

-- a group is complete
abbrev pub Closes : (old new : Compiling) → Type 0
Closes old new = (around : List Pending) → old.pending.items ≡ around ++ Group ∷ []
    → Finishes old.nodes.items around new

-- a token that isn't passed over is taken
abbrev pub Writes : Token → (old new : Compiling) → Type 0
Writes (Set bytes) old new = Finishes (old.nodes.items ++ Take bytes ∷ []) old.pending.items new
Writes Front old new = Finishes (old.nodes.items ++ First ∷ []) old.pending.items new
Writes End old new = Finishes (old.nodes.items ++ Last ∷ []) old.pending.items new
Writes Close old new = IsNow old.nodes.items (old.pending.items ++ Group ∷ []) None new
Writes Open old new = Closes old new
Writes (Repeat low high) old new = Begins low high old new

-- a token that is passed over, and ends the item if no group is open
abbrev pub PassesLeaf : ℕ → (old new : Compiling) → Type 0
PassesLeaf zero old new = Finishes old.nodes.items old.pending.items new
PassesLeaf (suc depth) old new = IsNow old.nodes.items old.pending.items (Some (suc depth)) new

abbrev pub PassesOpen : ℕ → (old new : Compiling) → Type 0
PassesOpen zero old new = Unit {0}
PassesOpen (suc depth) old new = PassesLeaf depth old new

-- a token is passed over, of an item of which `depth` groups are open
abbrev pub Passes : ℕ → Token → (old new : Compiling) → Type 0
Passes depth (Set bytes) old new = PassesLeaf depth old new
Passes depth Front old new = PassesLeaf depth old new
Passes depth End old new = PassesLeaf depth old new
Passes depth Close old new = IsNow old.nodes.items old.pending.items (Some (suc depth)) new
Passes depth Open old new = PassesOpen depth old new
Passes depth (Repeat low high) old new = IsNow old.nodes.items old.pending.items (Some depth) new

abbrev pub TakesIn : Option ℕ → Token → (old new : Compiling) → Type 0
TakesIn None token old new = Writes token old new
TakesIn (Some depth) token old new = Passes depth token old new

abbrev pub Takes : (old : Compiling) → Token → (new : Compiling) → Type 0
Takes old token new = TakesIn old.passing token old new

-- the tokens are taken from the last to the first
abbrev pub TakesAll : (old : Compiling) → List Token → (new : Compiling) → Type 0
TakesAll old [] new = old ≡ new
TakesAll old (token ∷ tokens) new = (now : Compiling) × TakesAll old tokens now × Takes now token new

-- how many groups are open in what is passed over
abbrev pub depth_in : Option ℕ → ℕ
depth_in None = 0
depth_in (Some depth) = depth

-- what waits last is no duplication
abbrev pub PopsNone : List Pending → Type 0
PopsNone pending = (around : List Pending) (duplication : Duplication) → pending ≡ around ++ Repeated duplication ∷ []
    → ⊥

abbrev pub Pops : (old : Compiling) → Option Duplication → (new : Compiling) → Type 0
Pops old None new = (new ≡ old) × PopsNone old.pending.items
Pops old (Some duplication) new = (new.nodes.items ≡ old.nodes.items) × (new.passing ≡ old.passing)
    × (old.pending.items ≡ new.pending.items ++ Repeated duplication ∷ [])
