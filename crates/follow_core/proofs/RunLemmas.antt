-- Lemmas on the text of a name, to which each entry adds, and on all that is written, to which each look adds.
use Rattle.std.{
  proofs.lemmas.Grind.common_steps,
  proofs.Math.{Seq.drop-append_seam as drop_front, Bool.or_assoc},
  proofs.Common.{◌≡◌, ℕ, Bool, true, false, List, [], ◌∷◌, ◌++◌, refl, sym, append_assoc, append-nil, Option, ◌||◌, ◌∙◌},
  proofs.Common.{arith, is_some},
}
use Rattle.engine_core.specs.Written.{IsBeginning}
use Rattle.follow_core.specs.{
  Version.{Version, Entry, version, gap, entries_later, entries_at_look, open_after_look, open_after_later},
  Run.{goes_on, runs_of, last_contents, whole_text, name_text, KeptFrom, AreKept},
  Gain.{gains_later, last_from, gains_after},
  Look.{Ways, Look},
  Reading.{AreAtLook, AreFound, looks_more, names_more, no_looks, no_names},
  Share.{Share, shares_of, shares_from, shares_at_look, shares_at_look_from},
  Followed.{text_from, share_text, header_after, last_header_from, messages_of, any_failed},
}
use Rattle.watch_core.specs.Snapshot.{Snapshot}

-- the run that a version begins, and the runs after it
record Begun (v : Version) (entries : List Entry) : Type 0 where
  run : List Version
  others : List (List Version)
  more : List ℕ
  runs : runs_of (version v ∷ entries) ≡ (v ∷ run) ∷ others
  last : last_contents (v ∷ run) ≡ v.contents ++ more
  gains : gains_later (version v) entries ≡ more ++ whole_text others

whole_of : {v : Version} {entries : List Entry} (b : Begun v entries)
    → whole_text (runs_of (version v ∷ entries)) ≡ v.contents ++ gains_later (version v) entries
whole_of {v} b = rw (b.runs, b.last, b.gains) (append_assoc v.contents b.more (whole_text b.others))

goes : {v w : Version} {entries : List Entry} → Begun w entries → IsBeginning v.contents w.contents → goes_on v w ≡ true
    → Begun v (version w ∷ entries)
goes {v} {w} {entries} b (rest, is) test = record {
  run = w ∷ b.run;
  others = b.others;
  more = rest ++ b.more;
  runs = rw (test, b.runs) refl;
  last = rw (b.last, is) (append_assoc v.contents rest b.more);
  gains = rw (test, b.gains, is, drop_front v.contents rest) (sym (append_assoc rest b.more (whole_text b.others)));
}

stops : {v w : Version} {entries : List Entry} → Begun w entries → goes_on v w ≡ false → Begun v (version w ∷ entries)
stops {v} {w} {entries} b test = record {
  run = [];
  others = runs_of (version w ∷ entries);
  more = [];
  runs = rw test refl;
  last = sym (append-nil v.contents);
  gains = rw test (sym (whole_of b));
}

either : {v w : Version} {entries : List Entry} → Begun w entries → (test : Bool) → goes_on v w ≡ test
    → (test ≡ true → IsBeginning v.contents w.contents) → Begun v (version w ∷ entries)
either b true is kept = goes b (kept refl) is
either b false is kept = stops b is

mutual
  begun : {v : Version} (entries : List Entry) → KeptFrom v entries → AreKept entries → Begun v entries
  begun {v} [] kept all = record { run = []; others = []; more = []; runs = refl; last = sym (append-nil v.contents); gains = refl }
  begun {v} (gap ∷ entries) kept all = record {
    run = [];
    others = runs_of entries;
    more = [];
    runs = refl;
    last = sym
        (append-nil v.contents);
    gains = after_gap entries all;
  }
  begun {v} (version w ∷ entries) kept all = either (begun entries all.0 all.1) (goes_on v w) refl kept

  after_gap : (entries : List Entry) → AreKept entries → gains_later gap entries ≡ whole_text (runs_of entries)
  after_gap [] all = refl
  after_gap (gap ∷ entries) all = after_gap entries all
  after_gap (version w ∷ entries) all = sym (whole_of (begun entries all.0 all.1))

-- the text of a name is what its entries add, if files that are appended to keep their bytes
pub text_is_gains : (start : List ℕ → List ℕ) (entries : List Entry) → AreKept entries
    → name_text start entries ≡ gains_after start [] entries
text_is_gains start [] all = refl
text_is_gains start (gap ∷ entries) all = sym (after_gap entries all)
text_is_gains start (version v ∷ entries) all =
    let b = begun entries all.0 all.1 in
    rw (b.runs, b.last, drop_front v.contents b.more, b.gains)
    (append_assoc (start v.contents) b.more (whole_text b.others))

pub later-append : (last : Entry) (entries more : List Entry)
    → gains_later last (entries ++ more) ≡ gains_later last entries ++ gains_later (last_from last entries) more
later-append last [] more = refl
later-append last (entry ∷ entries) more = grind (arith, common_steps, append_assoc, later-append entry entries more)

pub gains-append : (start : List ℕ → List ℕ) (entries more : List Entry)
    → gains_after start [] (entries ++ more) ≡ gains_after start [] entries ++ gains_after start entries more
gains-append start entries more = grind (arith, common_steps, later-append)

pub kept_before : (entries more : List Entry) → AreKept (entries ++ more) → AreKept entries
kept_before [] more all = tt
kept_before (gap ∷ entries) more all = kept_before entries more all
kept_before (version v ∷ []) more all = (tt, tt)
kept_before (version v ∷ gap ∷ entries) more all = (tt, kept_before (gap ∷ entries) more all.1)
kept_before (version v ∷ version w ∷ entries) more all = (all.0, kept_before (version w ∷ entries) more all.1)

-- The text goes on: what more entries add stands after the text of the entries before.
pub text_goes_on : (start : List ℕ → List ℕ) (entries more : List Entry) → AreKept (entries ++ more)
    → name_text start (entries ++ more) ≡ name_text start entries ++ gains_after start entries more
text_goes_on start entries more all = grind (arith, common_steps, text_is_gains, gains-append, kept_before)

pub last_from-append : (last : Entry) (entries more : List Entry)
    → last_from last (entries ++ more) ≡ last_from (last_from last entries) more
last_from-append last [] more = refl
last_from-append last (entry ∷ entries) more = last_from-append entry entries more

shares_from-append : (ways : Ways) (names : List (List ℕ)) (before looks : List Look) (look : Look)
    → shares_from ways names before (looks ++ look ∷ [])
    ≡ shares_from ways names before looks ++ shares_at_look ways names (before ++ looks) look
shares_from-append ways names before [] look = grind (arith, common_steps)
shares_from-append ways names before (next ∷ looks) look =
    rw (shares_from-append ways names (before ++ next ∷ []) looks look, append_assoc before (next ∷ []) looks)
    (sym (append_assoc (shares_at_look ways names before next) _ _))

pub shares_more : (ways : Ways) (names : List (List ℕ)) (looks : List Look) (look : Look)
    → shares_of ways names (looks ++ look ∷ []) ≡ shares_of ways names looks ++ shares_at_look ways names looks look
shares_more ways names looks look = shares_from-append ways names [] looks look

pub at_look_are : {ways : Ways} {before : List Look} {look : Look} {from : ℕ} {names : List (List ℕ)}
    {shares : List Share} → AreAtLook true ways before look from names shares
    → shares ≡ shares_at_look_from ways before look from names
at_look_are no_names = refl
at_look_are (names_more given rest) = λ i. given.is refl i ∷ at_look_are rest i

-- if what looks see is visible, their snapshots and visits decide what they give
pub found_are : (ways : Ways) (names : List (List ℕ)) (looks : List Look) (shares : List Share)
    → AreFound true ways names looks shares → shares ≡ shares_of ways names looks
found_are ways names looks shares no_looks = refl
found_are ways names looks shares (looks_more {looks = before} {look} {shares = given} found at_look) =
    (λ i. found_are ways names before given found i ++ at_look_are at_look i) ∙ sym (shares_more ways names before look)

pub text-append : (headers : Bool) (last : Option (List ℕ)) (shares more : List Share)
    → text_from headers last (shares ++ more)
    ≡ text_from headers last shares ++ text_from headers (last_header_from headers last shares) more
text-append headers last [] more = refl
text-append headers last (share ∷ shares) more =
    rw (text-append headers (header_after headers last share) shares more)
    (sym (append_assoc (share_text headers last share) _ _))

pub last-append : (headers : Bool) (last : Option (List ℕ)) (shares more : List Share)
    → last_header_from headers last (shares ++ more)
    ≡ last_header_from headers (last_header_from headers last shares) more
last-append headers last [] more = refl
last-append headers last (share ∷ shares) more = last-append headers (header_after headers last share) shares more

pub messages-append : (shares more : List Share) → messages_of (shares ++ more) ≡ messages_of shares ++ messages_of more
messages-append [] more = refl
messages-append (share ∷ shares) more = grind (arith, common_steps, append_assoc, messages-append shares more)

pub failed-append : (shares more : List Share) → any_failed (shares ++ more) ≡ (any_failed shares || any_failed more)
failed-append [] more = refl
failed-append (share ∷ shares) more =
    rw (failed-append shares more) (sym (or_assoc (is_some share.failure) (any_failed shares) (any_failed more)))

-- the entries of one look more
pub looks-append : (by_name : Bool) (name : List ℕ) (opened : Option ℕ) (snaps : List Snapshot) (snapshot : Snapshot)
    → entries_later by_name name opened (snaps ++ snapshot ∷ [])
    ≡ entries_later by_name name opened snaps
    ++ entries_at_look by_name name (open_after_later by_name name opened snaps) snapshot
looks-append by_name name opened [] snapshot = append-nil _
looks-append by_name name opened (next ∷ snaps) snapshot =
    rw (looks-append by_name name (open_after_look by_name name opened next) snaps snapshot)
    (sym (append_assoc (entries_at_look by_name name opened next) _ _))
