-- Lemmas on inputs in memory: how far one was read, where it breaks off, and what opening one finds.
use Rattle.std.proofs.{
  Common.{◌≡◌, ℕ, ◌+◌, ◌-◌, ◌<◌, ◌≤◌, max, Bool, true, IsTrue, List, Option, [], ◌∷◌, ◌++◌, Some, None, length},
  Common.{take, drop, get_or, set, eqb, refl, sym, ◌∙◌, ap, subst, arith, length-take, length-drop, take-take},
  Common.{drop-drop, take-add, if◌then◌else◌, leb, not, ◌&&◌, ◌==◌},
  lemmas.{List.{drop-take, take-append-drop}, Bool.{cond_both, le-leb, lt-ltb}},
}
use Rattle.ports_core.{
  specs.{
    Slot.changed_at,
    Source.{Content, Opens, OpensNothing, Source, broke, counted, cut, gets_back, gives, is_readable, missing},
    Source.{no_room, skips, source_of},
    declared.reason.Reason.Reason,
  },
  proofs.SourceLemmas.{one_changes, readable_within},
}
use Rattle.mem_core.specs.{
  MemInState.{MemInState, Laid, laid_at, laid_in, breaks_in, content_in, content_of, with_break},
}
use Rattle.ports_core.specs.declared.fault.Fault.TheVariants as fault

-- Whatever an input shows

module _ (shown : Option (List ℕ)) (why : Reason) where
  -- the input that an input in memory is seen as
  abbrev pub seen_as : List ℕ → ℕ → Bool → Bool → Bool → ℕ → ℕ → ℕ → Bool → ℕ → Source
  seen_as bytes given breaks_off is_open is_broken asked reached last ended reads = record {
    left = record { bytes = drop given bytes; breaks_off = breaks_off; shown = shown };
    is_open = is_open;
    is_broken = is_broken;
    reason = why;
    asked = asked;
    taken = take given bytes;
    reached = reached;
    last = last;
    ended = ended;
    reads = reads;
  }

  both_taken : (bytes : List ℕ) (given n : ℕ) → take (given + n) bytes ≡ take given bytes ++ take n (drop given bytes)
  both_taken bytes given n = take-add given n bytes

  rest_left : (bytes : List ℕ) (given n : ℕ) → drop (given + n) bytes ≡ drop n (drop given bytes)
  rest_left bytes given n = sym (drop-drop n given bytes)

  -- n bytes more were taken
  goes_on : (bytes : List ℕ) (given n reached asked last reads : ℕ) (breaks_off is_open is_broken ended : Bool)
      → seen_as bytes (given + n) breaks_off is_open is_broken asked reached last ended reads
      ≡ record (skips n
      (seen_as bytes given breaks_off is_open is_broken asked reached last ended reads)) { last = last }
  goes_on bytes given n reached asked last reads breaks_off is_open is_broken ended =
      ap (λ those. record (seen_as bytes (given + n) breaks_off is_open is_broken asked reached last ended reads) { left = record { bytes = those; breaks_off = breaks_off; shown = shown } }) (rest_left bytes given n)
      ∙ ap (λ those. record (skips n (seen_as bytes given breaks_off is_open is_broken asked reached last ended reads)) { taken = those; last = last }) (both_taken bytes given n)

  pub skipped : (bytes : List ℕ) (given n reached asked last reads : ℕ) {now : ℕ}
      (breaks_off is_open is_broken ended : Bool) → now ≡ (if n == 0 then last else 0)
      → seen_as bytes (given + n) breaks_off is_open is_broken asked reached now ended reads
      ≡ skips n (seen_as bytes given breaks_off is_open is_broken asked reached last ended reads)
  skipped bytes given n reached asked last reads {now} breaks_off is_open is_broken ended is =
      goes_on bytes given n reached asked now reads breaks_off is_open is_broken ended
      ∙ ap (λ those. record (skips n (seen_as bytes given breaks_off is_open is_broken asked reached last ended reads)) { last = those }) is

  pub read_on : (bytes : List ℕ) (given n size : ℕ) {most now : ℕ} (reached asked last : ℕ)
      (breaks_off is_open is_broken ended : Bool) {ends : Bool} (reads : ℕ) {count : ℕ}
      → given + n ≤ length bytes → most ≡ max asked size → now ≡ max reached (given + n)
      → ends ≡ (n == 0 && not (size == 0)) → count ≡ counted reads
      → seen_as bytes (given + n) breaks_off is_open is_broken most now n ends count
      ≡ gives size n (seen_as bytes given breaks_off is_open is_broken asked reached last ended reads)
  read_on bytes given n size {most} {now} reached asked last breaks_off is_open is_broken ended {ends} reads {count} within greatest is ending once =
      goes_on bytes given n now most n count breaks_off is_open is_broken ends ∙ ap (λ asks. record (skips n (seen_as bytes given breaks_off is_open is_broken asks now n ends count)) { last = n }) greatest
      ∙ ap (λ those. record (skips n (seen_as bytes given breaks_off is_open is_broken
      (max asked size) now n ends count)) { last = those })
      (sym (omega (arith, length-take n (drop given bytes), length-drop given bytes)))
      ∙ ap (λ far. record (gives size n (seen_as bytes given breaks_off is_open is_broken asked reached last ended reads)) { reached = far; ended = ends; reads = count })
      (is ∙ ap (max reached) (sym (ap length (sym (both_taken bytes given n)) ∙ omega (arith, length-take (given + n) bytes))))
      ∙ ap (λ ends. record (gives size n (seen_as bytes given breaks_off is_open is_broken asked reached last ended reads)) { ended = ends; reads = count }) ending
      ∙ ap (λ count. record (gives size n (seen_as bytes given breaks_off is_open is_broken asked reached last ended reads)) { reads = count }) once

  pub set_back : (bytes : List ℕ) (given n reached asked last reads : ℕ) (breaks_off is_open is_broken ended : Bool)
      → given ≤ length bytes → n ≤ given
      → seen_as bytes (given - n) breaks_off is_open is_broken asked reached (last - n) ended reads
      ≡ gets_back n (seen_as bytes given breaks_off is_open is_broken asked reached last ended reads)
  set_back bytes given n reached asked last reads breaks_off is_open is_broken ended within few =
      let at : length (take given bytes) - n ≡ given - n = omega (arith, length-take given bytes) in
      let joined : drop (given - n) (take given bytes) ++ drop given bytes ≡ drop (given - n) bytes = between bytes (given - n) given (omega arith) in
      ap (set_to (take (given - n) bytes)) (sym joined)
      ∙ ap (λ those. set_to those (drop (given - n) (take given bytes) ++ drop given bytes)) (sym (take-take (given - n) given bytes (omega arith)))
      ∙ ap (λ k. set_to (take k (take given bytes)) (drop k (take given bytes) ++ drop given bytes)) (sym at) where
        set_to : List ℕ → List ℕ → Source
        set_to taken left =
            record (seen_as bytes given breaks_off is_open is_broken asked reached (last - n) ended reads) {
              left = record { bytes = left; breaks_off = breaks_off; shown = shown };
              taken = taken;
            }

        between : (bytes : List ℕ) (from given : ℕ) → from ≤ given
            → drop from (take given bytes) ++ drop given bytes ≡ drop from bytes
        between bytes from given less =
            let more : from + (given - from) ≡ given = omega arith in
            ap (λ k. drop from (take k bytes) ++ drop k bytes) (sym more)
            ∙ ap (λ those. those ++ drop (from + (given - from)) bytes) (drop-take from (given - from) bytes)
            ∙ ap (λ those. take (given - from) (drop from bytes) ++ those) (rest_left bytes from (given - from))
            ∙ take-append-drop (given - from) (drop from bytes)

-- inputs in memory with these fields are seen so
abbrev pub IsSeen : List Source → List Laid → List (ℕ × ℕ) → MemInState → Type 0
IsSeen sources files breaks state = record { sources = sources; files = files; breaks = breaks } ≡ state

-- an input that has this many bytes is cut there
pub cut_within : (source : Source) {at : ℕ} → at ≤ length source.left.bytes
    → record source { left = record source.left { bytes = take at source.left.bytes; breaks_off = true } }
    ≡ cut at source
cut_within source within = rw le-leb refl

pub break_there : (state : MemInState) {slot : ℕ} (at : ℕ) {source new : Source} → slot < length state.sources
    → source ≡ get_or state.sources slot source → new ≡ cut at source
    → record state { sources = set state.sources slot new } ≡ with_break slot at state
break_there state {slot} at {source} {new} within there is =
    ap (λ sources. record state { sources = sources }) (one_changes state.sources state.sources slot (cut at) source new refl within there is)
    ∙ ap (λ (b : Bool). if b then record state { sources = changed_at slot (cut at) state.sources } else record state { breaks = state.breaks ++ (slot, at) ∷ [] }) (sym (lt-ltb slot (length state.sources) within))

-- one of the inputs that can be read is replaced by its change
pub source_changes : {state : MemInState} {sources : List Source} {files : List Laid} {breaks : List (ℕ × ℕ)} (slot : ℕ)
    (change : Source → Source) {source new : Source}
    → IsSeen sources files breaks state → IsTrue (is_readable state.sources slot) → source ≡ get_or sources slot source
    → new ≡ change source
    → set sources slot new ≡ changed_at slot change state.sources
source_changes {state} {sources} slot change {source} {new} is can at changed =
    let same = ap (λ (those : MemInState). those.sources) is in
    one_changes sources state.sources slot change source new same
    (readable_within sources slot (subst (λ those. is_readable those slot ≡ true) (sym same) can)) at changed

-- an input that is planned to break off is as if it were just opened
still_open : (plans : List (ℕ × ℕ)) (slot : ℕ) (content : Content)
    → breaks_in plans slot (source_of content) ≡ source_of (breaks_in plans slot (source_of content)).left
still_open [] slot content = refl
still_open (plan ∷ plans) slot content =
    let IsOpen : Source → Type 0 = λ source. source ≡ source_of source.left in
    cond_both (eqb plan.0 slot) _ _ IsOpen (λ _. cond_both (leb plan.1 (length content.bytes)) _ _ IsOpen (λ _. refl) (λ _. refl))
    (λ _. still_open plans slot content)

-- What an open finds, as the code has it: the new list, its last member and its number by their equations. First a name at which nothing lies.
pub opened_nothing : {state : MemInState} {sources new : List Source} {files : List Laid} {breaks : List (ℕ × ℕ)}
    {name : List ℕ} {source : Source} {slot : ℕ} {why : Reason}
    → IsSeen sources files breaks state → laid_at files name ≡ None → new ≡ sources ++ source ∷ []
    → source ≡ missing why → slot ≡ length sources
    → OpensNothing true (laid_in state.files state.breaks) state.sources new name (fault.Open slot)
opened_nothing {state} {sources} {name} {slot} {why} is none added lacks counts =
    broke slot why (counts ∙ ap (λ (those : MemInState). length those.sources) is)
    (λ visible. ap (content_of state.breaks slot) (ap (λ (those : MemInState). laid_at those.files name) (sym is) ∙ none))
    (added ∙ ap (λ last. sources ++ last ∷ []) lacks ∙ ap (λ (those : MemInState). those.sources ++ missing why ∷ []) is)

-- a name at which a file lies
pub opened_file : {state : MemInState} {sources new : List Source} {files : List Laid} {breaks : List (ℕ × ℕ)}
    {name : List ℕ} {file : Laid} (made : Source) {source : Source} {slot : ℕ}
    → IsSeen sources files breaks state → laid_at files name ≡ Some file → made ≡ source_of (content_in file)
    → source ≡ breaks_in breaks slot made
    → new ≡ sources ++ source ∷ [] → slot ≡ length sources
    → Opens true (laid_in state.files state.breaks) state.sources new name slot
opened_file {sources} {breaks} {name} {file} made {source} {slot} is found fresh planned added counts =
    let cut_so : source ≡ breaks_in breaks slot (source_of (content_in file)) = planned ∙ ap (breaks_in breaks slot) fresh in
    record {
      number = counts ∙ ap (λ (those : MemInState). length those.sources) is;
      content = source.left;
      lies = λ visible. ap (λ (those : MemInState). laid_in those.files those.breaks slot name) (sym is) ∙ ap (content_of breaks slot) found ∙ ap (λ (made : Source). Some made.left) (sym cut_so);
      sources = added ∙ ap (λ made. sources ++ made ∷ []) (cut_so ∙ still_open breaks slot (content_in file) ∙ ap (λ (made : Source). source_of made.left) (sym cut_so))
          ∙ ap (λ (those : MemInState). those.sources ++ source_of source.left ∷ []) is;
    }

pub kept_all : {state : MemInState} {sources new : List Source} {files : List Laid} {breaks : List (ℕ × ℕ)}
    {name : List ℕ}
    → IsSeen sources files breaks state → new ≡ sources
    → OpensNothing true (laid_in state.files state.breaks) state.sources new name fault.Memory
kept_all is same = no_room (same ∙ ap (λ (those : MemInState). those.sources) is)
