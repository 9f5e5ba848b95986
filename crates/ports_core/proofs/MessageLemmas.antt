-- Lemmas on messages.
use Rattle.std.proofs.{
  Common.{◌≡◌, ℕ, Bool, false, List, [], ◌∷◌, ◌++◌, map, take, Result, Ok, Err, OnOk, IfErr, ◌⊎◌, refl, sym, ◌∙◌, ap},
  Common.arith,
}
use Rattle.ports_core.specs.{
  Slot.{Slot, slot_at, with_written, with_broken, adds, breaks, visible_of},
  Write.BrokeAfter,
  Text.{Message, is_quiet, line_of, message_of, status_after},
  declared.{
    calling.Speaker.Speaker,
    reason.Reason.Reason,
    whole.WriteCut.WriteCut,
    fault.Fault.{Fault, TheVariants.Memory},
  },
  Message.{Prints, PrintsOn, Report, Says, SaysAll, SaysEach, SaysFor, SaysOn, TellsOn, cut, output_named, output_reason},
  Message.{passed, whole},
}

pub prints_on : (visible : Bool) {text : List ℕ} {old new : List Slot} (result : Result (Unit {0}) WriteCut)
    → (slot_at old 1).is_broken ≡ false → OnOk result (new ≡ with_written 1 (visible_of visible text) old)
    → IfErr result (λ at. BrokeAfter visible old new 1 text at.written) → PrintsOn visible text old new
prints_on visible (Ok u) sound out broke output error since is = grind arith
prints_on visible {text} (Err at) sound out broke output error since is =
    let (why, slots) = broke.slots in
    let part = visible_of visible (take at.written text) in
    let was_sound = sym (ap (λ slots. (slot_at slots 1).is_broken) is) ∙ sound in
    let same = slots ∙ ap (λ slots. with_broken why 1 (with_written 1 part slots)) is in
    (breaks why (adds part error), cut was_sound at.written why broke.within refl, same)

pub says_on : (visible : Bool) {speaker : Speaker} {why : Reason} (message : Message) {said : List ℕ}
    {old new : List Slot}
    → (said ≡ line_of speaker why message) ⊎ (said ≡ line_of speaker why (message_of Memory []))
    → PrintsOn visible said old new → SaysOn visible speaker why message old new
says_on visible message {said} is prints output error since shape =
    let printed = prints output error since shape in
    (printed.0, record { said = said; is = is; printed = printed.1 }, printed.2)

-- a fault that isn't quiet was reported
pub told_aloud : (visible : Bool) {speaker : Speaker} (fault : Fault) {old new : List Slot}
    → is_quiet fault speaker.calling (output_reason old fault) ≡ false
    → SaysOn visible speaker (output_reason old fault) (message_of fault (output_named old fault)) old new
    → TellsOn visible speaker fault old new × (1 ≡ status_after fault speaker.calling (output_reason old fault))
told_aloud visible fault aloud says = grind arith

-- one more message after others
pub says_more : (visible : Bool) (speaker : Speaker) (messages : List Message) (message : Message) (old mid new : Slot)
    → SaysAll visible speaker messages old mid → Says visible speaker message mid new
    → SaysAll visible speaker (messages ++ message ∷ []) old new
says_more visible speaker [] message old mid new so_far says = grind arith
says_more visible speaker (first ∷ messages) message old mid new so_far says = (so_far.0, so_far.1, says_more _ _ messages _ _ _ _ so_far.2 says)

-- a message doesn't change whether an output is open
pub printed_open : (visible : Bool) (text : List ℕ) (old new : Slot) → Prints visible text old new
    → new.state ≡ old.state
printed_open visible text old new (whole sound is) = cc
printed_open visible text old new (cut sound n why within is) = cc
printed_open visible text old new (passed broken is) = cc

pub all_said_state : (visible : Bool) (speaker : Speaker) (messages : List Message) (old new : Slot)
    → SaysAll visible speaker messages old new → new.state ≡ old.state
all_said_state visible speaker [] old new is = cc
all_said_state visible speaker (message ∷ messages) old new says =
    grind (arith, all_said_state _ _ messages _ _ says.2)

pub says_after : (visible : Bool) (speaker : Speaker) (messages more : List Message) (old mid new : Slot)
    → SaysAll visible speaker messages old mid → SaysAll visible speaker more mid new
    → SaysAll visible speaker (messages ++ more) old new
says_after visible speaker [] more old mid new so_far says = grind arith
says_after visible speaker (first ∷ messages) more old mid new so_far says = (so_far.0, so_far.1, says_after _ _ messages _ _ _ _ so_far.2 says)

-- reports, one after another

pub each_more : (visible : Bool) (speaker : Speaker) (reports : List Report) (report : Report) (old mid new : Slot)
    → SaysEach visible speaker reports old mid → SaysFor visible speaker report.why report.message mid new
    → SaysEach visible speaker (reports ++ report ∷ []) old new
each_more visible speaker [] report old mid new so_far says = grind arith
each_more visible speaker (first ∷ reports) report old mid new so_far says =
    (so_far.0, so_far.1, each_more _ _ reports _ _ _ _ so_far.2 says)

-- their messages, without the reasons
abbrev pub messages_in : List Report → List Message
messages_in reports = map (λ (report : Report). report.message) reports

pub each_all : (visible : Bool) (speaker : Speaker) (reports : List Report) (old new : Slot)
    → SaysEach visible speaker reports old new → SaysAll visible speaker (messages_in reports) old new
each_all visible speaker [] old new is = is
each_all visible speaker (report ∷ reports) old new says =
    (says.0, (report.why, says.1), each_all _ _ reports _ _ says.2)

pub each_state : (visible : Bool) (speaker : Speaker) (reports : List Report) (old new : Slot)
    → SaysEach visible speaker reports old new → new.state ≡ old.state
each_state visible speaker reports old new says = all_said_state _ _ _ _ _ (each_all visible speaker reports old new says)
