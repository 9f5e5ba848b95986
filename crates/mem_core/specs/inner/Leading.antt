-- Where names lead in memory, and which calls on them can fail.
use Rattle.std.specs.Prelude.{◌≡◌, ℕ, suc, Bool, true, false, List, Option, ◌⊎◌}
use Rattle.watch_core.specs.{Snapshot.first_led, Edits.{World, shown}}
use Rattle.mem_core.specs.{
  declared.mem_watch.{Leading.{Leading, TheVariants.{Plain, Forgiving, Clinging, Keeping}}, Manner.Manner},
  MemWatchState.world_at,
}

-- where the last of so many looks finds a name to lead
abbrev pub led_at : Leading → List World → (looks : ℕ) → List ℕ → Option ℕ
led_at Plain worlds looks name = (shown false (world_at worlds looks)).leads name
led_at Forgiving worlds looks name = (shown true (world_at worlds looks)).leads name
led_at Clinging worlds looks name = first_led (λ look. (shown true (world_at worlds (suc look))).leads name) looks
led_at Keeping worlds looks name = first_led (λ look. (shown true (world_at worlds (suc look))).leads name) looks

-- a call on an open file can fail that would go well
abbrev pub fails_by : Leading → Bool
fails_by Plain = true
fails_by Forgiving = false
fails_by Clinging = true
fails_by Keeping = false

-- a call on a name can fail
abbrev pub CanFail : Manner → Type 0
CanFail manner = (fails_by manner.leading ≡ true) ⊎ (manner.insists ≡ true)

-- from now on a name that can't be read counts as missing, and no call fails
abbrev pub forgiven : Leading → Leading
forgiven Plain = Forgiving
forgiven Forgiving = Forgiving
forgiven Clinging = Keeping
forgiven Keeping = Keeping
