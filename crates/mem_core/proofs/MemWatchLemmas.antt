-- A watch in memory sees at each look what was planned for it.
use Rattle.std.proofs.{
  Common.{◌≡◌, ℕ, ◌+◌, ◌-◌, ◌<◌, ◌≤◌, ◌⊎◌, inl, inr, min, zero, suc, Bool, true, false, List, [], ◌∷◌},
  Common.{◌++◌, Option, codes},
  Common.{Some, None, length, refl, if◌then◌else◌, sym, ◌∙◌, ap, subst, arith, get_or, set, length-append, is_some, not, option_map, ◌&&◌},
  lemmas.{Bool.cases_lt, Grind.common_steps},
}
use Rattle.watch_core.{
  specs.Snapshot.{Snapshot, clinging, first_led, forgiving, insisting, is_nowhere, latest, leads_to, opens_as, or_else, waiting, Finding, Found},
  specs.Edits.{World, empty_world, held_in, is_barred_in, is_one, led_to, seen_in, shown},
  specs.Watched.{Watched, Reopens, file_seen, open_contents, opens, watched_at},
  specs.declared.watch.Seen.Seen,
  proofs.NameLemmas.{latest-last, name_changes, name_there},
}
use Rattle.ports_core.specs.declared.reason.Reason.{Reason, TheVariants.Missing}
use Rattle.mem_core.specs.{
  MemWatchState.{MemWatchState, is_fed, missing_in, world_at, seen_by, seen, shown_by, shown_in, shows},
  declared.mem_watch.{Leading.{Leading, TheVariants.{Plain, Forgiving, Clinging, Keeping}}, Manner.Manner},
  inner.Leading.{CanFail, forgiven, led_at},
}

pub world_there : (worlds : List World) (n : ℕ) (world : World) → n < length worlds
    → world_at worlds n ≡ get_or worlds n world
world_there [] n world within = absurd (omega arith)
world_there (first ∷ []) zero world within = refl
world_there (first ∷ []) (suc n) world within = absurd (omega arith)
world_there (first ∷ next ∷ worlds) zero world within = refl
world_there (first ∷ next ∷ worlds) (suc n) world within = world_there (next ∷ worlds) n world (omega arith)

-- past the last look that was planned all is as at that look
pub world_past : (worlds : List World) (n : ℕ) → length worlds ≤ n + 1
    → world_at worlds n ≡ world_at worlds (length worlds)
world_past [] n past = refl
world_past (first ∷ []) n past = refl
world_past (first ∷ next ∷ worlds) zero past = absurd (omega arith)
world_past (first ∷ next ∷ worlds) (suc n) past = world_past (next ∷ worlds) n (omega arith)

-- one more list of files changes none before it
pub world_before : (worlds : List World) (more : World) (n : ℕ) → n < length worlds
    → world_at (worlds ++ more ∷ []) n ≡ world_at worlds n
world_before [] more n within = absurd (omega arith)
world_before (first ∷ []) more zero within = refl
world_before (first ∷ []) more (suc n) within = absurd (omega arith)
world_before (first ∷ next ∷ worlds) more zero within = refl
world_before (first ∷ next ∷ worlds) more (suc n) within = world_before (next ∷ worlds) more n (omega arith)

-- the last once more changes nothing
pub world_again : (worlds : List World) (n : ℕ)
    → world_at (worlds ++ world_at worlds (length worlds) ∷ []) n ≡ world_at worlds n
world_again [] n = refl
world_again (first ∷ []) zero = refl
world_again (first ∷ []) (suc n) = refl
world_again (first ∷ next ∷ worlds) zero = refl
world_again (first ∷ next ∷ worlds) (suc n) = world_again (next ∷ worlds) n

-- both have the same files at the same looks
abbrev pub SameWorlds : List World → List World → Type 0
SameWorlds new old = (n : ℕ) → world_at new n ≡ world_at old n

-- each look sees the same of these
shown_same : (manner : Manner) (new old : List World) (n : ℕ) → SameWorlds new old
    → shown_in manner new n ≡ shown_in manner old n
shown_same manner new old n same = λ i. let shown = record (shown_by manner.leading (λ look. same (suc look) i) n)
    { missing = missing_in manner.why (same (suc n) i) } in
    if manner.insists then insisting shown else shown

seen_same : (manner : Manner) (within : ℕ) (new old : List World) (n : ℕ) → SameWorlds new old
    → seen_by manner within new n ≡ seen_by manner within old n
seen_same manner within new old zero same = refl
seen_same manner within new old (suc n) same =
    ap (λ before. before ++ waiting within (shown_in manner new n) ∷ []) (seen_same manner within new old n same)
    ∙ ap (λ shown. seen_by manner within old n ++ waiting within shown ∷ []) (shown_same manner new old n same)

pub length-seen : (manner : Manner) (within : ℕ) (worlds : List World) (n : ℕ)
    → length (seen_by manner within worlds n) ≡ n
length-seen manner within worlds zero = refl
length-seen manner within worlds (suc n) =
    let both : length (seen_by manner within worlds n ++ waiting within (shown_in manner worlds n) ∷ []) ≡ length
    (seen_by manner within worlds n) + 1 = length-append (seen_by manner within worlds n) _ in
    let before : length (seen_by manner within worlds n) ≡ n = length-seen manner within worlds n in
    omega arith

pub shows_same : (new old : MemWatchState) → new.manner ≡ old.manner → new.within ≡ old.within
    → SameWorlds new.worlds old.worlds → shows new ≡ shows old
shows_same new old also waits same =
    let is : shows new ≡ shows old = (λ i. λ n. waiting (waits i) (shown_in (also i) new.worlds n))
    ∙ (λ i. λ n. waiting old.within (shown_same old.manner new.worlds old.worlds n same i)) in is

-- one more look sees what the watch was to show
pub turns_on : (watch : MemWatchState) (worlds : List World) → SameWorlds worlds watch.worlds
    → seen_by watch.manner watch.within worlds (watch.turns + 1)
    ≡ seen watch ++ shows watch (length (seen watch)) ∷ []
turns_on watch worlds same =
    let next : watch.turns + 1 ≡ suc watch.turns = omega arith in
    rw (next) (seen_same watch.manner watch.within worlds watch.worlds (suc watch.turns) same
    ∙ ap (λ n. seen watch ++ waiting watch.within (shown_in watch.manner watch.worlds n) ∷ [])
    (sym (length-seen watch.manner watch.within watch.worlds watch.turns)))

-- what is seen of files however names lead

-- the look of the files, but for how names lead, which calls fail, and whether it insists
abbrev look_of : Manner → List World → ℕ → Snapshot
look_of manner worlds n = record (seen_in (world_at worlds (suc n))) {
  leads = led_at manner.leading worlds (suc n);
  missing = missing_in manner.why (world_at worlds (suc n));
  barred = (shown_in manner worlds n).barred;
  breaks = (shown_in manner worlds n).breaks;
  insists = manner.insists;
}

shown_is : (manner : Manner) (worlds : List World) (n : ℕ) → shown_in manner worlds n ≡ look_of manner worlds n
shown_is manner worlds n = by manner.leading manner.insists manner.why where
  by : (leading : Leading) (insists : Bool) (why : Reason) → shown_in (record { leading = leading; insists = insists; why = why }) worlds n
      ≡ look_of (record { leading = leading; insists = insists; why = why }) worlds n
  by Plain false why = refl
  by Plain true why = refl
  by Forgiving false why = refl
  by Forgiving true why = refl
  by Clinging false why = refl
  by Clinging true why = refl
  by Keeping false why = refl
  by Keeping true why = refl

shown_holds : (manner : Manner) (worlds : List World) (n file : ℕ)
    → (shown_in manner worlds n).holds file ≡ held_in (world_at worlds (suc n)).files file
shown_holds manner worlds n file = ap (λ (shown : Snapshot). shown.holds file) (shown_is manner worlds n)

shown_lacks : (manner : Manner) (worlds : List World) (n process : ℕ)
    → is_one process (world_at worlds (suc n)).ended ≡ (shown_in manner worlds n).lacks process
shown_lacks manner worlds n process = sym (ap (λ (shown : Snapshot). shown.lacks process) (shown_is manner worlds n))

shown_leads : (manner : Manner) (worlds : List World) (n : ℕ) (name : List ℕ)
    → led_at manner.leading worlds (suc n) name ≡ (shown_in manner worlds n).leads name
shown_leads manner worlds n name = sym (ap (λ (shown : Snapshot). shown.leads name) (shown_is manner worlds n))

-- any call may have found anything, except that a name leads nowhere if that fails
shown_finds : (manner : Manner) (worlds : List World) (n : ℕ) (name : List ℕ) (finding : Finding)
    → (manner.insists ≡ true → is_nowhere finding ≡ false) → Found (shown_in manner worlds n) name finding
shown_finds manner worlds n name finding there =
    subst (λ shown. Found shown name finding) (sym (shown_is manner worlds n)) (by manner.insists there)
  where
    by : (insists : Bool) → (insists ≡ true → is_nowhere finding ≡ false) → not (insists && is_nowhere finding) ≡ true
    by false there = refl
    by true there = ap not (there refl)

pub finds_any : (manner : Manner) (within : ℕ) (worlds : List World) (n : ℕ) (name : List ℕ) (finding : Finding)
    → (manner.insists ≡ true → is_nowhere finding ≡ false)
    → Found (latest (seen_by manner within worlds n)) name finding
finds_any manner within worlds zero name finding there = refl
finds_any manner within worlds (suc n) name finding there =
    subst (λ shown. Found shown name finding) (sym (latest-last (seen_by manner within worlds n) _))
    (shown_finds manner worlds n name finding there)

-- what is there

pub leads_there : (found : Option Seen) → is_some found ≡ true
    → is_nowhere (leads_to (option_map (λ (file : Seen). file.id) found)) ≡ false
leads_there None is = absurd (cc)
leads_there (Some file) is = refl

pub opens_there : (file : Option ℕ) → is_some file ≡ true → is_nowhere (opens_as file) ≡ false
opens_there None is = absurd (cc)
opens_there (Some file) is = refl

-- what the last look sees are the files of its turn

latest_holds : (manner : Manner) (within : ℕ) (worlds : List World) (n file : ℕ) → world_at worlds 0 ≡ empty_world
    → (latest (seen_by manner within worlds n)).holds file ≡ held_in (world_at worlds n).files file
latest_holds manner within worlds zero file is = ap (λ (world : World). held_in world.files file) (sym is)
latest_holds manner within worlds (suc n) file is =
    ap (λ (shown : Snapshot). shown.holds file) (latest-last (seen_by manner within worlds n) _) ∙ shown_holds manner worlds n file

latest_leads : (manner : Manner) (within : ℕ) (worlds : List World) (n : ℕ) (name : List ℕ)
    → world_at worlds 0 ≡ empty_world
    → led_at manner.leading worlds n name ≡ (latest (seen_by manner within worlds n)).leads name
latest_leads manner within worlds zero name is = by manner.leading where
  by : (leading : Leading) → led_at leading worlds 0 name ≡ None
  by Plain = ap (λ world. (shown false world).leads name) is
  by Forgiving = ap (λ world. (shown true world).leads name) is
  by Clinging = refl
  by Keeping = refl
latest_leads manner within worlds (suc n) name is = shown_leads manner worlds n name
    ∙ ap (λ (shown : Snapshot). shown.leads name) (sym (latest-last (seen_by manner within worlds n) _))

latest_missing : (manner : Manner) (within : ℕ) (worlds : List World) (n : ℕ) (name : List ℕ)
    → world_at worlds 0 ≡ empty_world
    → missing_in manner.why (world_at worlds n) name ≡ (latest (seen_by manner within worlds n)).missing name
latest_missing manner within worlds zero name is = ap (λ world. missing_in manner.why world name) is
latest_missing manner within worlds (suc n) name is =
    sym (ap (λ (shown : Snapshot). shown.missing name) (shown_is manner worlds n))
    ∙ ap (λ (shown : Snapshot). shown.missing name) (sym (latest-last (seen_by manner within worlds n) _))

-- where nothing is forgiven, or a missing name fails, a call may have failed
shown_breaks : (manner : Manner) (worlds : List World) (n : ℕ) (name : List ℕ) → CanFail manner
    → (shown_in manner worlds n).breaks name ≡ true
shown_breaks manner worlds n name = by manner.leading manner.insists manner.why where
  by : (leading : Leading) (insists : Bool) (why : Reason) → CanFail (record { leading = leading; insists = insists; why = why })
      → (shown_in (record { leading = leading; insists = insists; why = why }) worlds n).breaks name ≡ true
  by leading true why is = refl
  by Plain false why is = refl
  by Forgiving false why (inl is) = absurd (cc)
  by Forgiving false why (inr is) = absurd (cc)
  by Clinging false why is = refl
  by Keeping false why (inl is) = absurd (cc)
  by Keeping false why (inr is) = absurd (cc)

latest_breaks : (manner : Manner) (within : ℕ) (worlds : List World) (n : ℕ) (name : List ℕ) → CanFail manner
    → (latest (seen_by manner within worlds n)).breaks name ≡ true
latest_breaks manner within worlds zero name is = refl
latest_breaks manner within worlds (suc n) name is =
    ap (λ (those : Snapshot). those.breaks name) (latest-last (seen_by manner within worlds n) _) ∙ shown_breaks manner worlds n name is

pub may_break : (watch : MemWatchState) (name : List ℕ) → CanFail watch.manner
    → (latest (seen watch)).breaks name ≡ true
may_break watch name can = latest_breaks watch.manner watch.within watch.worlds watch.turns name can

-- what was forgiven is

forgiven_twice : (barred : Bool) (led : Option ℕ)
    → (if barred then None else led) ≡ (if barred then None else (if barred then None else led))
forgiven_twice true led = refl
forgiven_twice false led = refl

-- from now on all looks show so
pub shows_now : {watch : MemWatchState} {worlds : List World} {turns : ℕ} {names : List Watched} {manner : Manner}
    {within : ℕ} (now : Manner) (change : (ℕ → Snapshot) → ℕ → Snapshot)
    → record { worlds = worlds; turns = turns; watched = names; manner = manner; within = within }
    ≡ watch
    → ◌≡◌ {A = ℕ → Snapshot} (λ n. waiting within (shown_in now worlds n))
    (change (λ n. waiting within (shown_in manner worlds n)))
    → ◌≡◌ {A = ℕ → Snapshot} (λ n. waiting within (shown_in now worlds n)) (change (shows watch))
shows_now now change is same = same ∙ ap (λ those. change (shows those)) is

pub forgives_all : (manner : Manner) (within : ℕ) (worlds : List World)
    → ◌≡◌ {A = ℕ → Snapshot}
    (λ n. waiting within
    (shown_in (record { leading = forgiven manner.leading; insists = false; why = manner.why }) worlds n))
    (λ n. forgiving (waiting within (shown_in manner worlds n)))
forgives_all manner within worlds = by manner.leading manner.insists manner.why where
  by : (leading : Leading) (insists : Bool) (why : Reason)
      → ◌≡◌ {A = ℕ → Snapshot}
      (λ n. waiting within (shown_in (record { leading = forgiven leading; insists = false; why = why }) worlds n))
      (λ n. forgiving (waiting within (shown_in (record { leading = leading; insists = insists; why = why }) worlds n)))
  by Plain false why = refl
  by Plain true why = refl
  by Forgiving false why = λ i. λ n. waiting within (record (forgiving (seen_in (world_at worlds (suc n)))) {
    missing = missing_in why (world_at worlds (suc n));
    leads = λ name. forgiven_twice ((seen_in (world_at worlds (suc n))).barred name) ((seen_in (world_at worlds (suc n))).leads name) i;
  })
  by Forgiving true why = λ i. λ n. waiting within (record (forgiving (seen_in (world_at worlds (suc n)))) {
    missing = missing_in why (world_at worlds (suc n));
    leads = λ name. forgiven_twice ((seen_in (world_at worlds (suc n))).barred name) ((seen_in (world_at worlds (suc n))).leads name) i;
  })
  by Clinging false why = refl
  by Clinging true why = refl
  by Keeping false why = refl
  by Keeping true why = refl

pub insists_all : (manner : Manner) (within : ℕ) (worlds : List World)
    → ◌≡◌ {A = ℕ → Snapshot}
    (λ n. waiting within (shown_in (record { leading = manner.leading; insists = true; why = manner.why }) worlds n))
    (λ n. insisting (waiting within (shown_in manner worlds n)))
insists_all manner within worlds = by manner.leading manner.insists manner.why where
  by : (leading : Leading) (insists : Bool) (why : Reason)
      → ◌≡◌ {A = ℕ → Snapshot}
      (λ n. waiting within (shown_in (record { leading = leading; insists = true; why = why }) worlds n))
      (λ n. insisting (waiting within (shown_in (record { leading = leading; insists = insists; why = why }) worlds n)))
  by leading false why = refl
  by leading true why = refl

-- the first of the files to which a name led first is the first
or_twice : (led later : Option ℕ) → or_else led later ≡ or_else led (or_else led later)
or_twice None later = refl
or_twice (Some file) later = refl

first_first : (leads : ℕ → Option ℕ) (n : ℕ) → first_led leads n ≡ first_led (λ look. first_led leads (suc look)) n
first_first leads zero = refl
first_first leads (suc n) = or_twice (first_led leads n) (leads n)
    ∙ ap (λ led. or_else led (first_led leads (suc n))) (first_first leads n)

pub clings_all : (manner : Manner) (within : ℕ) (worlds : List World)
    → ◌≡◌ {A = ℕ → Snapshot}
    (λ n. waiting within (shown_in (record { leading = Clinging; insists = false; why = manner.why }) worlds n))
    (clinging (λ n. waiting within (shown_in manner worlds n)))
clings_all manner within worlds = by manner.leading manner.insists manner.why where
  by : (leading : Leading) (insists : Bool) (why : Reason)
      → ◌≡◌ {A = ℕ → Snapshot}
      (λ n. waiting within (shown_in (record { leading = Clinging; insists = false; why = why }) worlds n))
      (clinging (λ n. waiting within (shown_in (record { leading = leading; insists = insists; why = why }) worlds n)))
  by Plain false why = refl
  by Plain true why = refl
  by Forgiving false why = λ i. λ n. record (waiting within (clinging (λ look. seen_in (world_at worlds (suc look))) n)) {
    missing = missing_in why (world_at worlds (suc n));
    leads = λ name. first_led (λ look. forgiven_twice ((seen_in (world_at worlds (suc look))).barred name)
        ((seen_in (world_at worlds (suc look))).leads name) i) (suc n);
  }
  by Forgiving true why = λ i. λ n. record (waiting within (clinging (λ look. seen_in (world_at worlds (suc look))) n)) {
    missing = missing_in why (world_at worlds (suc n));
    leads = λ name. first_led (λ look. forgiven_twice ((seen_in (world_at worlds (suc look))).barred name)
        ((seen_in (world_at worlds (suc look))).leads name) i) (suc n);
  }
  by Clinging false why = λ i. λ n. record (waiting within (clinging (λ look. seen_in (world_at worlds (suc look))) n)) {
    missing = missing_in why (world_at worlds (suc n));
    leads = λ name. first_first (λ look. (forgiving (seen_in (world_at worlds (suc look)))).leads name) (suc n) i;
  }
  by Clinging true why = λ i. λ n. record (waiting within (clinging (λ look. seen_in (world_at worlds (suc look))) n)) {
    missing = missing_in why (world_at worlds (suc n));
    leads = λ name. first_first (λ look. (forgiving (seen_in (world_at worlds (suc look)))).leads name) (suc n) i;
  }
  by Keeping false why = λ i. λ n. record (waiting within (clinging (λ look. seen_in (world_at worlds (suc look))) n)) {
    missing = missing_in why (world_at worlds (suc n));
    leads = λ name. first_first (λ look. (forgiving (seen_in (world_at worlds (suc look)))).leads name) (suc n) i;
  }
  by Keeping true why = λ i. λ n. record (waiting within (clinging (λ look. seen_in (world_at worlds (suc look))) n)) {
    missing = missing_in why (world_at worlds (suc n));
    leads = λ name. first_first (λ look. (forgiving (seen_in (world_at worlds (suc look)))).leads name) (suc n) i;
  }

-- before the first look nothing was seen, in whatever manner
pub none_seen : {watch : MemWatchState} {worlds : List World} (turns : ℕ) {names : List Watched} {manner : Manner}
    {within : ℕ} (now : Manner)
    → record { worlds = worlds; turns = turns; watched = names; manner = manner; within = within }
    ≡ watch
    → seen watch ≡ [] → seen_by now within worlds turns ≡ seen watch
none_seen zero now is unseen = sym unseen
none_seen {watch} {worlds} (suc turns) {manner} {within} now is unseen = absurd
    (let count : length (seen watch) ≡ suc turns = ap (λ (those : MemWatchState). length (seen those)) (sym is)
    ∙ length-seen manner within worlds (suc turns) in let none = ap length unseen in omega arith)

-- what is so of the files of the last turn is so of the last look
module _ {watch : MemWatchState} {worlds : List World} (turns : ℕ) {names : List Watched}
    {manner : Manner} {within : ℕ}
    (is : record { worlds = worlds; turns = turns; watched = names; manner = manner; within = within }
    ≡ watch) (empty : world_at worlds 0 ≡ empty_world) where
  item_is : (place : ℕ) {item : Watched} → place < length names → item ≡ get_or names place item
      → item ≡ watched_at watch.watched place
  item_is place {item} within at = name_there names place item within at ∙ ap (λ (those : MemWatchState). watched_at those.watched place) is

  held_now : (file : ℕ) {world : World} → world ≡ world_at worlds turns
      → held_in world.files file ≡ (latest (seen watch)).holds file
  held_now file now = ap (λ (those : World). held_in those.files file) now ∙ sym (latest_holds manner within worlds turns file empty)
      ∙ ap (λ (those : MemWatchState). (latest (seen those)).holds file) is

  pub tells_now : (file len : ℕ) {world : World} → world ≡ world_at worlds turns
      → len ≡ length (held_in world.files file)
      → record { id = file; len = len } ≡ file_seen (latest (seen watch)) file
  tells_now file len now is_len = ap (λ n. record { id = file; len = n }) (is_len ∙ ap length (held_now file now))

  pub led_now : (place : ℕ) {item : Watched} {file : Option ℕ} → place < length names → item ≡ get_or names place item
      → file ≡ led_at manner.leading worlds turns item.name
      → file ≡ (latest (seen watch)).leads (watched_at watch.watched place).name
  led_now place {item} within_names at leads = leads ∙ latest_leads manner within worlds turns item.name empty
      ∙ ap (λ (those : MemWatchState). (latest (seen those)).leads item.name) is
      ∙ ap (λ (those : Watched). (latest (seen watch)).leads those.name) (item_is place within_names at)

  pub missing_now : (place : ℕ) {item : Watched} {why : Reason} {world : World} (is_barred : Bool)
      → place < length names → item ≡ get_or names place item → world ≡ world_at worlds turns
      → is_barred ≡ is_barred_in world.bars item.name → why ≡ (if is_barred then manner.why else Missing)
      → why ≡ (latest (seen watch)).missing (watched_at watch.watched place).name
  missing_now place {item} is_barred within_names at now barred said = said
      ∙ ap (λ is. if is then manner.why else Missing) (barred ∙ ap (λ (those : World). is_barred_in those.bars item.name) now)
      ∙ latest_missing manner within worlds turns item.name empty
      ∙ ap (λ (those : MemWatchState). (latest (seen those)).missing item.name) is
      ∙ ap (λ (those : Watched). (latest (seen watch)).missing those.name) (item_is place within_names at)

  pub reopens_now : (place : ℕ) {item new : Watched} {file : Option ℕ} {is_there : Bool} → place < length names
      → item ≡ get_or names place item → file ≡ (latest (seen watch)).leads (watched_at watch.watched place).name
      → new ≡ opens file item → is_there ≡ is_some file
      → (watch.manner.insists ≡ true → is_some file ≡ true)
      → Reopens true (latest (seen watch)) watch.watched (set names place new) place is_there
  reopens_now place {item} {new} {file} within at leads changed found there = record {
    file = file;
    found = sym found;
    names = name_changes names watch.watched place (opens file) item new (ap (λ (those : MemWatchState). those.watched) is) within at changed;
    opens = finds_any watch.manner watch.within watch.worlds watch.turns _ _ (λ insists. opens_there file (there insists));
    leads = λ visible. leads;
  }

  pub opened_now : (place : ℕ) {file : ℕ} {item : Watched} {world : World} → place < length names
      → item ≡ get_or names place item → world ≡ world_at worlds turns → item.opened ≡ Some file
      → held_in world.files file ≡ open_contents (latest (seen watch)) (watched_at watch.watched place)
  opened_now place {file} {item} within at now opened =
      held_now file now
      ∙ sym (ap (λ those. open_contents (latest (seen watch)) (record item { opened = those })) opened)
      ∙ ap (open_contents (latest (seen watch))) (item_is place within at)

-- past the last look that was planned all is as at that
pub at_last : (worlds : List World) (n m : ℕ) → 0 < length worlds → m ≡ min n (length worlds - 1)
    → world_at worlds m ≡ world_at worlds n
at_last worlds n m some is = by (cases_lt n (length worlds)) where
  by : (n < length worlds) ⊎ (length worlds ≤ n) → world_at worlds m ≡ world_at worlds n
  by (inl within) = ap (world_at worlds) (let same : m ≡ n = grind (arith, common_steps) in same)
  by (inr past) = world_past worlds m (grind (arith, common_steps)) ∙ sym (world_past worlds n (omega arith))

-- the processes that are gone before the next look
pub gone_next : {watch : MemWatchState} {worlds : List World} {turns next : ℕ} {names : List Watched} {world : World}
    {manner : Manner} {within : ℕ} (process : ℕ) {gone : Bool}
    → record { worlds = worlds; turns = turns; watched = names; manner = manner; within = within }
    ≡ watch → turns < length worlds → next ≡ min (turns + 1) (length worlds - 1)
    → world ≡ world_at worlds next → gone ≡ is_one process world.ended
    → gone ≡ (shows watch (length (seen watch))).lacks process
gone_next {worlds} {turns} {next} {manner} {within} process is inside at there gone = gone ∙ ap (λ (those : World). is_one process those.ended)
    (there ∙ at_last worlds (turns + 1) next (omega arith) at ∙ ap (world_at worlds) (let next : turns + 1 ≡ suc turns = omega arith in next)
    ∙ ap (λ n. world_at worlds (suc n)) (sym (length-seen manner within worlds turns)))
    ∙ shown_lacks manner worlds (length (seen_by manner within worlds turns)) process
    ∙ ap (λ (those : MemWatchState). (shows those (length (seen those))).lacks process) is

-- standard input is a file where its name leads to one in the files of the first look
pub fed_now : {watch : MemWatchState} {worlds : List World} {turns first : ℕ} {names : List Watched} {world : World}
    {manner : Manner} {within : ℕ} {file : Option ℕ} {fed : Bool}
    → record { worlds = worlds; turns = turns; watched = names; manner = manner; within = within }
    ≡ watch → 0 < length worlds → first ≡ min 1 (length worlds - 1) → world ≡ world_at worlds first
    → file ≡ led_to world.links (codes "-") → fed ≡ is_some file → fed ≡ is_fed watch
fed_now {worlds} {first} is some at there leads fed = fed ∙ ap is_some (leads ∙ ap (λ (those : World). led_to those.links (codes "-"))
    (there ∙ at_last worlds 1 first some at)) ∙ ap is_fed is

pub turned : {watch : MemWatchState} {worlds : List World} (new : List World) (turns : ℕ) {n : ℕ} {names : List Watched}
    {manner : Manner} {within : ℕ}
    → record { worlds = worlds; turns = turns; watched = names; manner = manner; within = within }
    ≡ watch → SameWorlds new worlds → n ≡ turns + 1
    → seen_by manner within new n ≡ seen watch ++ shows watch (length (seen watch)) ∷ []
turned {worlds} new turns {n} {names} {manner} {within} is same next =
    subst (λ (those : MemWatchState). seen_by manner within new n ≡ seen those ++ shows those (length (seen those)) ∷ []) is
    (ap (seen_by manner within new) next
    ∙ turns_on (record { worlds = worlds; turns = turns; watched = names; manner = manner; within = within }) new same)

-- if nothing more was planned, the last files are added once more
pub same_again : (worlds : List World) {new : List World} {world : World} → world ≡ world_at worlds (length worlds)
    → new ≡ worlds ++ world ∷ [] → SameWorlds new worlds
same_again worlds last is n = ap (λ those. world_at those n) (is ∙ ap (λ those. worlds ++ those ∷ []) last) ∙ world_again worlds n

pub still_shows : {watch : MemWatchState} (new : MemWatchState) {worlds : List World} (turns : ℕ) {names : List Watched}
    {manner : Manner} {within : ℕ} → new.manner ≡ manner → new.within ≡ within
    → record { worlds = worlds; turns = turns; watched = names; manner = manner; within = within }
    ≡ watch → SameWorlds new.worlds worlds → shows new ≡ shows watch
still_shows new {worlds} turns {names} {manner} {within} also waits is same = shows_same new
    (record { worlds = worlds; turns = turns; watched = names; manner = manner; within = within }) also waits same ∙ ap shows is

-- one more look is planned: the watch is still at a planned look, and begins with no file
pub holds_more : (worlds : List World) {new : List World} (world : World) (turns n : ℕ) → turns < length worlds
    → world_at worlds 0 ≡ empty_world → new ≡ worlds ++ world ∷ [] → n ≤ turns + 1
    → (n < length new) × (world_at new 0 ≡ empty_world)
holds_more worlds world turns n within empty is few =
    let longer : length (worlds ++ world ∷ []) ≡ length worlds + 1 = length-append worlds (world ∷ []) in
    subst (λ those. (n < length those) × (world_at those 0 ≡ empty_world)) (sym is) (omega arith, world_before worlds world 0 (omega arith) ∙ empty)
