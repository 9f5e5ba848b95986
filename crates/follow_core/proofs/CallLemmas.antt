-- Lemmas on what a call on a name gives, by what the calls in it give: bytes under headers, and lines.
use Rattle.std.proofs.{
  lemmas.{Grind.common_steps, List.{append-nil, take-append-le}},
  Common.{◌≡◌, ℕ, Bool, List, [], ◌∷◌, ◌++◌, ◌∙◌, ◌+◌, length, take, true, false, not},
  Common.{if◌then◌else◌, Some, None, Option, refl, arith, append_assoc, length-append, bytes_eq, is_none, rules},
  Math.{Seq.take-append-add, Bool.and-false},
}
use Rattle.ports_core.specs.{
  Slot.{Slot, with_written, visible_of},
  Message.{OnError, SaysOn},
  Text.header_of,
  declared.{calling.Calling.Calling, reason.Reason.Reason, fault.Fault.Fault},
}
use Rattle.ports_core.proofs.{MessageLemmas.printed_open, WriteLemmas.{broke_later, none_written, written_both}}
use Rattle.follow_core.specs.{
  Sharing.{CameTo, WroteBy},
  Telling.{Remark, Tells, TellsAll, failed, failure_message, found, tail_by},
  Followed.{has_header, is_empty, is_last},
  Printing.{PrinterState, Short, broke as short_broke, no_room},
  inner.Giving.{IsFront, Came, Pen, Puts, printer_under, text_under},
  Title.title,
}
use Rattle.ports_core.specs.declared.fault.Fault.TheVariants as fault

-- Lines that following writes to standard error, one after another.

-- the message that a name can't be read, or opened; it doesn't have the number of the name
pub failure_said : {visible : Bool} {calling : Calling} {why : Reason} (read : Bool) (place : ℕ) (name : List ℕ)
    {old new : List Slot}
    → SaysOn visible (tail_by calling) why (failure_message (if read then fault.Read place else fault.Open place) name)
    old new
    → let fault = if read then fault.Read 0 else fault.Open 0 in
    OnError (Tells visible calling (failed (record { fault = fault; why = why }) name)) old new
failure_said true place name says = says
failure_said false place name says = says

tell_state : (visible : Bool) (calling : Calling) (remark : Remark) (old new : Slot)
    → Tells visible calling remark old new → new.state ≡ old.state
tell_state visible calling (found notice name) old new tells = printed_open visible _ old new tells
tell_state visible calling (failed failure name) old new tells = printed_open visible tells.said old new tells.printed

pub tells_state : (visible : Bool) (calling : Calling) (lines : List Remark) (old new : Slot)
    → TellsAll visible calling lines old new → new.state ≡ old.state
tells_state visible calling [] old new is = cc
tells_state visible calling (line ∷ lines) old new tells = tells_state visible calling lines tells.0 new tells.2
    ∙ tell_state visible calling line old tells.0 tells.1

pub tells_after : (visible : Bool) (calling : Calling) (lines more : List Remark) (old mid new : Slot)
    → TellsAll visible calling lines old mid → TellsAll visible calling more mid new
    → TellsAll visible calling (lines ++ more) old new
tells_after visible calling [] more old mid new so_far tells = grind (arith, common_steps)
tells_after visible calling (first ∷ lines) more old mid new so_far
    tells = (so_far.0, so_far.1, tells_after visible calling lines more so_far.0 mid new so_far.2 tells)

-- What is written under headers.

pub no_memory : {visible : Bool} {text : List ℕ} {slots : List Slot} → Short visible text slots slots fault.Memory
no_memory {visible} {slots} = no_room 0 (omega arith) (none_written visible 0)

pub short_more : {visible : Bool} {text : List ℕ} (more : List ℕ) {old new : List Slot} {why : Fault}
    → Short visible text old new why → Short visible (text ++ more) old new why
short_more {visible} {text} more {old} (short_broke n cut) =
    let (why, is) = cut.slots in
    short_broke n (record {
      within = omega (arith, length-append text more);
      slots = (why, rw (take-append-le n text more (omega arith)) is);
    })
short_more {visible} {text} more {old} (no_room n within is) = no_room n
    (let a : length (text ++ more) ≡ length text + length more = length-append text more in omega arith)
    (rw (take-append-le n text more within) is)

pub itself : (name : List ℕ) → bytes_eq name name ≡ true
itself name = search rules

-- bytes in two pieces are bytes in one, also if the first piece stands at the front of a file that was opened
in_two : (printer : PrinterState) (opened : Bool) (name first second : List ℕ)
    → (text_under printer opened name first ++ text_under (printer_under printer opened name first) false name second
    ≡ text_under printer opened name (first ++ second))
    × (printer_under (printer_under printer opened name first) false name second
    ≡ printer_under printer opened name (first ++ second))
in_two printer opened name first second = by printer.headers opened first (is_last name printer.last) refl where
  by : (headers opened : Bool) (first : List ℕ) (last : Bool) → is_last name printer.last ≡ last
      → let before : PrinterState = record { calling = printer.calling; headers = headers; last = printer.last } in
      (text_under before opened name first ++ text_under (printer_under before opened name first) false name second
      ≡ text_under before opened name (first ++ second))
      × (printer_under (printer_under before opened name first) false name second
      ≡ printer_under before opened name (first ++ second))
  by false opened first last is = (refl, refl)
  by true true first last is = rw (itself name, and-false (not (is_empty second))) (append_assoc _ first second, refl)
  by true false [] last is = (refl, refl)
  by true false (byte ∷ first) true is = rw (is, is, and-false (not (is_empty second))) (refl, refl)
  by true false (byte ∷ first) false is = rw (is, itself name, and-false (not (is_empty second))) (append_assoc _ (byte ∷ first) second, refl)

pub short_after : {visible : Bool} (first : List ℕ) {second : List ℕ} {old mid new : List Slot} {why : Fault}
    → mid ≡ with_written 0 (visible_of visible first) old → Short visible second mid new why
    → Short visible (first ++ second) old new why
short_after first {second} one (short_broke n cut) =
    short_broke (length first + n) (rw (append-nil second) at (broke_later _ first second [] one cut))
short_after {visible} first {second} {old} {mid} {new} one (no_room n within is) = no_room (length first + n)
    (let a : length (first ++ second) ≡ length first + length second = length-append first second in omega arith)
    (rw (take-append-add first second n) (written_both visible 0 first (take n second) old one is))

-- a text after another that was written whole, or a beginning of it
text_after : (visible : Bool) (first second : List ℕ) (old : List Slot) {mid : List Slot} (new : List Slot)
    (over : Option Fault)
    → mid ≡ with_written 0 (visible_of visible first) old → CameTo visible second mid new over
    → CameTo visible (first ++ second) old new over
text_after visible first second old new over one given = grind (arith, common_steps, written_both, short_after)

-- What standard output and standard error get.

pub wrote_text : (visible : Bool) (calling : Calling) (text : List ℕ) {old : List Slot} (new : List Slot)
    (over : Option Fault) → CameTo visible text old new over → WroteBy visible calling text [] old new over
wrote_text visible calling text new over came = grind (arith, common_steps)

pub wrote_line : (visible : Bool) (calling : Calling) (line : Remark) {old new : List Slot}
    → OnError (Tells visible calling line) old new → WroteBy visible calling [] (line ∷ []) old new None
wrote_line visible calling line tells = search rules

-- a text and lines after others, or a beginning of them, are one text and its lines
pub wrote_after : (visible : Bool) (calling : Calling) (text more : List ℕ) {both : List ℕ}
    (lines further : List Remark)
    {all : List Remark} {old mid : List Slot} (new : List Slot)
    (over : Option Fault) → text ++ more ≡ both → lines ++ further ≡ all
    → WroteBy visible calling text lines old mid None
    → WroteBy visible calling more further mid new over
    → WroteBy visible calling both all old new over
wrote_after visible calling text more lines further {old} new over same also first second = grind (arith, common_steps, tells_after, text_after)

-- What is given in two steps.

pub came_none : {visible : Bool} {name : List ℕ} {now : Pen} → Came visible false name [] [] now now None
came_none {visible} {now = now} = search rules

pub came_after : {visible opened : Bool} {name first second : List ℕ} {lines more : List Remark} {old mid new : Pen}
    {over : Option Fault} → Came visible opened name first lines old mid None
    → Came visible false name second more mid new over
    → Came visible opened name (first ++ second) (lines ++ more) old new over
came_after {opened = opened} {name} {first} {second} {old = old} {over = over} one two =
    let (text, last) = in_two old.printer opened name first second in record {
      printer_is = λ none. rw (two.printer_is none, one.printer_is refl) last;
      slots = wrote_after _ _ _ _ _ _ _ over text refl one.slots (rw (one.printer_is refl) at two.slots);
    }

-- Bytes that are written.

pub puts_after : {visible opened : Bool} {name first second : List ℕ} {old mid new : Pen} {over : Option Fault}
    → Puts visible opened name first old mid None → Puts visible false name second mid new over
    → Puts visible opened name (first ++ second) old new over
puts_after {second = second} {over = over} one two = record {
  bytes = one.bytes ++ two.bytes;
  are = grind (arith, common_steps, one.are, two.are, append_assoc);
  came = came_after one.came two.came;
}

pub puts_nothing : {visible : Bool} {name : List ℕ} {now : Pen} → Puts visible false name [] now now None
puts_nothing = record { bytes = []; are = refl; came = came_none }

pub front_same : {X : Type 0} {given due : List X} → given ≡ due → IsFront given due
front_same {X} {given} is = search rules

-- bytes were written under the header that was due, or a beginning of both
pub puts : {visible opened : Bool} {name bytes : List ℕ} {old new : Pen} {mid : List Slot} {due : Bool}
    (over : Option Fault) → due ≡ has_header old.printer.headers old.printer.last opened name bytes
    → mid ≡ with_written 0 (visible_of visible (if due then header_of (title name) (is_none old.printer.last) else []))
    old.slots → CameTo visible bytes mid new.slots over
    → new.printer ≡ record old.printer { last = if due then Some name else old.printer.last }
    → Puts visible opened name bytes old new over
puts {visible} {opened} {name} {bytes} {old} {new} over is header came shown = grind
    (arith, common_steps, wrote_text, text_after, front_same)
