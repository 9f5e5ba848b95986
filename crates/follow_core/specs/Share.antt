-- What one look gives for one name.
use Rattle.std.specs.{
  Prelude.{◌≡◌, ℕ, ◌+◌, ◌-◌, Bool, true, false, not, is_some, ◌&&◌, List, [], ◌∷◌, ◌++◌, Option, Some, None, length},
  Prelude.{if◌then◌else◌, option_map},
}
use Rattle.ports_core.specs.declared.{fault.Fault.{Fault, TheVariants.{Open, Read}}, reason.Reason.Reason}
use Rattle.watch_core.specs.Snapshot.{Snapshot, latest}
use Rattle.follow_core.specs.{
  Event.{Begins, Event, after_change, all_but, all_held, bytes_in, came_of, change_between, gives, notes_in},
  Event.remarks_in,
  Gain.gains_after,
  Notice.is_missing,
  Run.name_text,
  Version.{held_at, is_same, open_after, open_after_look},
  Telling.{Failure, Remark, failed},
  Look.{Look, Ways, Fate, Visit, sound, unled, unopened, unmeasured, unsought, unread, is_dropped, is_first},
  Look.{entries_in, snapshots, visit_at},
}

pub record Share : Type 0 where
  pub name : List ℕ
  -- whether this was the first look, and it opened a file of the name
  pub is_opened : Bool
  pub events : List Event
  -- why nothing more came: a call failed, and so the name is dropped; or the name was missing at the first look
  pub failure : Option Failure

abbrev pub bytes_of : Share → List ℕ
bytes_of share = bytes_in share.events

abbrev pub failure_remark : List ℕ → Option Failure → List Remark
failure_remark name None = []
failure_remark name (Some failure) = failed failure name ∷ []

-- what is said of a name: what the look found, and after that the failure
abbrev pub remarks_of : Share → List Remark
remarks_of share = remarks_in share.name share.events ++ failure_remark share.name share.failure

-- What is due of a name at a look, in two parts: what came of the file that was open; and, if the name leads elsewhere,
-- a line about that and what the file there holds.
pub record Due : Type 0 where
  pub came : List Event
  pub led : List Event

-- the file of a name that is open after these looks
abbrev pub opened_in : Ways → List ℕ → List Look → Option ℕ
opened_in ways name looks = open_after ways.by_name name (snapshots looks)

-- how many bytes of that file were seen
abbrev pub seen_in : Ways → List ℕ → List Look → ℕ
seen_in ways name looks = length (held_at (latest (snapshots looks)) (opened_in ways name looks))

-- what is due at a later look, if this file is open and this many bytes of it were seen
abbrev pub due_later : (by_name : Bool) → List ℕ → Option ℕ → (seen : ℕ) → Snapshot → Due
due_later by_name name opened seen snapshot = let led = open_after_look by_name name opened snapshot in record {
  came = came_of snapshot opened seen;
  led = after_change (change_between opened led) (all_held snapshot led);
}

-- what is due at a look after these; at the first look that is the start part of the file to which the name leads
abbrev pub due_at : Ways → List ℕ → List Look → Look → Due
due_at ways name [] look = record {
  came = [];
  led = gives (gains_after ways.start [] (entries_in ways name (look ∷ []))) ∷ [];
}
due_at ways name (first ∷ looks) look = due_later ways.by_name name (opened_in ways name (first ∷ looks))
    (seen_in ways name (first ∷ looks)) look.snapshot

-- all events that a look gives for a name if no call on it fails
abbrev pub events_at : Ways → List ℕ → List Look → Look → List Event
events_at ways name before look = (due_at ways name before look).came ++ (due_at ways name before look).led

-- how many bytes a file has from a place on
abbrev pub left_from : Snapshot → Option ℕ → ℕ → ℕ
left_from snapshot file place = length (held_at snapshot file) - place

-- whether a call on the file that was open before the look failed
abbrev pub is_kept : Option ℕ → Fate → Bool
is_kept opened (unmeasured file) = is_same file opened
is_kept opened (unread file from) = is_same file opened
is_kept opened fate = false

-- What came of the open file before a call on it failed. Before its length is known, nothing came. A read fails at a
-- place: before that it was reported if the file was truncated, and all bytes before this place were given.
abbrev pub came_before : Snapshot → Fate → List Event → List Event
came_before snapshot (unmeasured file) came = []
came_before snapshot (unread file from) came = all_but (left_from snapshot file from) came
came_before snapshot fate came = came

-- What came of where the name leads, before a call failed. A line about it comes before the file is opened. A read
-- fails at a place, and all bytes before this place were given.
abbrev pub led_before : Snapshot → Fate → List Event → List Event
led_before snapshot sound led = led
led_before snapshot unled led = []
led_before snapshot (unread file from) led = all_but (left_from snapshot file from) led
led_before snapshot fate led = notes_in led

-- what is given for a name with this fate, if this file was open before the look
abbrev pub given_by : Due → Snapshot → Option ℕ → Fate → List Event
given_by due snapshot opened fate = if is_kept opened fate then came_before snapshot fate due.came
    else due.came ++ led_before snapshot fate due.led

-- what a look after these gives for a name with this fate
abbrev pub given_at : Ways → List ℕ → List Look → Look → Fate → List Event
given_at ways name before look fate =
    given_by (due_at ways name before look) look.snapshot (opened_in ways name before) fate

-- the text of a name in these looks
abbrev pub text_in : Ways → List ℕ → List Look → List ℕ
text_in ways name looks = name_text ways.start (entries_in ways name looks)

-- what a look adds to a name's text
abbrev pub gain : Ways → List ℕ → List Look → Look → List ℕ
gain ways name before look = bytes_in (events_at ways name before look)

-- what all looks add to a name's text
abbrev pub gains_from : Ways → List ℕ → List Look → List Look → List ℕ
gains_from ways name before [] = []
gains_from ways name before (look ∷ looks) =
    gain ways name before look ++ gains_from ways name (before ++ look ∷ []) looks

-- what a look gives for a name that was dropped: nothing
abbrev pub no_share : List ℕ → Share
no_share name = record { name = name; is_opened = false; events = []; failure = None }

-- what the first look gives for a name that leads nowhere: the message that it can't be opened, for this reason
abbrev pub missing_share : List ℕ → Reason → Share
missing_share name why = record {
  name = name;
  is_opened = false;
  events = [];
  failure = Some (record { fault = Open 0; why = why });
}

-- the fault that is reported for a name with this fate
abbrev pub fault_of : Fate → Option Fault
fault_of sound = None
fault_of unled = Some (Open 0)
fault_of unopened = Some (Open 0)
fault_of (unmeasured file) = Some (Read 0)
fault_of (unsought file from) = Some (Read 0)
fault_of (unread file from) = Some (Read 0)

-- the failure that is reported after such a visit
abbrev pub failure_of : Visit → Option Failure
failure_of visit = option_map (λ fault. record { fault = fault; why = visit.why }) (fault_of visit.fate)

abbrev pub is_unopened : Fate → Bool
is_unopened unopened = true
is_unopened fate = false

-- what a look after these gives for a name by such a visit
abbrev pub share_by : Ways → List ℕ → List Look → Look → Visit → Share
share_by ways name before look visit =
    if not (is_some (failure_of visit)) && is_first before && is_missing (entries_in ways name (before ++ look ∷ []))
    then missing_share name (look.snapshot.missing name)
    else record {
      name = name;
      is_opened = not (is_unopened visit.fate) && is_first before;
      events = given_at ways name before look visit.fate;
      failure = failure_of visit;
    }

-- what a look after these gives for the name of this number; nothing if the name was dropped before
abbrev pub share_of : Ways → List Look → Look → ℕ → List ℕ → Share
share_of ways before look place name = if is_dropped place before then no_share name
    else share_by ways name before look (visit_at place look)

abbrev pub shares_at_look_from : Ways → List Look → Look → ℕ → List (List ℕ) → List Share
shares_at_look_from ways before look place [] = []
shares_at_look_from ways before look place (name ∷ names) =
    share_of ways before look place name ∷ shares_at_look_from ways before look (place + 1) names

-- what a look after these gives for each name, in order
abbrev pub shares_at_look : Ways → List (List ℕ) → List Look → Look → List Share
shares_at_look ways names before look = shares_at_look_from ways before look ways.first names

abbrev pub shares_from : Ways → List (List ℕ) → List Look → List Look → List Share
shares_from ways names before [] = []
shares_from ways names before (look ∷ looks) =
    shares_at_look ways names before look ++ shares_from ways names (before ++ look ∷ []) looks

-- what all looks give, look by look, and at each look for each name in order
abbrev pub shares_of : Ways → List (List ℕ) → List Look → List Share
shares_of ways names looks = shares_from ways names [] looks

-- `part` is a beginning of `whole`, and no call on the name failed
pub record BeginsShare (part whole : Share) : Type 0 where
  pub name : part.name ≡ whole.name
  pub opened : part.is_opened ≡ whole.is_opened
  pub events : Begins part.events whole.events
  pub unfailed : part.failure ≡ None
