use Rattle.std.proofs.{
  Common.{◌≡◌, ◌≤◌, ◌<◌, ◌^◌, ◌+◌, length, length-take, ◌∷◌, ap, ◌++◌, ◌∙◌, [], take, Some, inl, inr, arith, refl},
  Common.{sym},
  lemmas.{Bool.false≢true, Grind.common_steps},
}
use Rattle.std.specs.List.{concat}
use Rattle.ports_core.{
  specs.{Source.{Source, fails, gives}},
  proofs.InputsLemmas.{asked_again, changed_source, ended_now, keeps_again, keeps_itself, keeps_others, nothing_read},
  proofs.InputsLemmas.{read_more, sound_at, still_readable},
}
use Rattle.tee_core.{
  proofs.{
    CopyLemmas.{joined_more, stands_of, stands_ready, stands_streams},
    EndLemmas.{counted_more, gave_last, gave_none, reads_copied, reads_more, reads_once, seen_broken, seen_ended},
    EndLemmas.{seen_more, seen_so_far},
  },
  specs.Run.{one_more, to_break, to_broken_output, to_end, to_limit},
}
use Rattle.tee_core.proofs.run.copy_pieces.Goals as goal

pub pieces-init : goal.pieces-init
pieces-init g c = record {
  pieces = [];
  copied = c.requires.started;
  known = c.requires.known;
  same = refl;
  counted = refl;
  small = omega arith;
  readable = c.requires.input;
  others = keeps_itself _ _;
  read = λ visible. nothing_read _ _;
  last = grind (arith, common_steps, gave_none);
  reads = c.requires.unread;
  asked = λ within. within;
}

pub copy_piece-requires-clause-ready : goal.copy_piece-requires-clause-ready
copy_piece-requires-clause-ready g c = let so_far = c.pieces.invariant in
    rw so_far.same (stands_ready (stands_of so_far.copied) c.requires.tee)

pub copy_piece-requires-clause-streams : goal.copy_piece-requires-clause-streams
copy_piece-requires-clause-streams g c =
    stands_streams (stands_of c.pieces.invariant.copied)

pub pieces-preserved : goal.pieces-preserved
pieces-preserved g c =
    let so_far = c.pieces.invariant in
    let piece = take c.in-Ok.n c.read.new.buffer in
    let within : c.in-Ok.n ≤ length c.read.new.buffer = omega (arith, c.in-Ok.ensures.bound, c.read.auto.buffer) in record {
      pieces = so_far.pieces ++ piece ∷ [];
      copied = one_more so_far.pieces piece _ _ so_far.copied
          (rw (← so_far.known) (sym c.is_done.ensures ∙ c.pieces-test.true))
          (omega (arith, length-take c.in-Ok.n c.read.new.buffer, within, c.if-n-eq0.false))
          (omega (arith, length-take c.in-Ok.n c.read.new.buffer, within, c.requires.most, c.read.auto.buffer, c.pieces.auto.buffer))
          c.copy_piece.ensures.copies;
      known = c.copy_piece.ensures.known;
      same = c.copy_piece.ensures.same ∙ so_far.same;
      counted = rw (← (joined_more so_far.pieces piece)) (counted_more (concat so_far.pieces) c.read.new.buffer c.in-Ok.n
          so_far.counted within c.in-Some.ensures.1);
      small = omega arith;
      readable = still_readable _ _ _ _ c.in-Ok.n c.in-Ok.ensures.rest so_far.readable;
      others = keeps_again _ _ _ _ so_far.others (keeps_others _ _ _ _ c.in-Ok.ensures.rest);
      read = λ visible. rw (joined_more so_far.pieces piece) at
          (read_more _ _ _ _ _ _ _ _ _ (so_far.read visible) so_far.readable (c.in-Ok.ensures.bytes visible) c.in-Ok.ensures.rest);
      last = λ visible. gave_last so_far.pieces _ _ _ so_far.readable (c.in-Ok.ensures.bytes visible) c.in-Ok.ensures.rest;
      reads = reads_more piece so_far.copied (omega (arith, so_far.counted, so_far.small)) so_far.reads
          (ap (λ (source : Source). source.reads) (changed_source 0 (gives _ c.in-Ok.n) _ _ so_far.readable c.in-Ok.ensures.rest));
      asked = λ within. asked_again _ _ _ _ _ _ so_far.readable c.in-Ok.ensures.rest (omega arith) (so_far.asked within);
    }

-- the read broke off

pub returns-in-Err-clause-copies : goal.returns-in-Err-clause-copies
returns-in-Err-clause-copies g c =
    let so_far = c.pieces.invariant in
    let small : length (concat so_far.pieces) < 2 ^ 63 = omega (arith, so_far.counted, so_far.small) in
    let (content, is, bytes, ended, leaves, breaks) = seen_broken _ _ _ _ _ _ so_far.read so_far.readable c.in-Err.ensures.break_off c.in-Err.ensures.err.1 in (
      content,
      is,
      (
        reads_copied so_far.known (sym c.is_done.ensures ∙ c.pieces-test.true) so_far.copied (record {
          read = rw c.in-Err.ensures.err.0 (to_break _ bytes ended leaves);
          few = small;
          met = inl (ap Some c.in-Err.ensures.err.0);
          ended = λ none. absurd (cc);
          last = λ visible vain. absurd (false≢true vain);
          reads = reads_once so_far.copied small so_far.reads (ap (λ (source : Source). source.reads)
              (changed_source 0 (fails _ _) _ _ so_far.readable c.in-Err.ensures.err.1.1));
        }),
        breaks,
      ),
    )

-- the input ended

pub returns-then-n-eq0-clause-copies : goal.returns-then-n-eq0-clause-copies
returns-then-n-eq0-clause-copies g c =
    let so_far = c.pieces.invariant in
    let small : length (concat so_far.pieces) < 2 ^ 63 = omega (arith, so_far.counted, so_far.small) in
    let (content, is, bytes, ended, leaves, breaks) =
    seen_ended _ _ _ _ _ _ so_far.read so_far.readable c.in-Ok.ensures.bytes c.if-n-eq0.true
    (omega arith) c.in-Ok.ensures.rest in (
      content,
      is,
      (
        reads_copied so_far.known (sym c.is_done.ensures ∙ c.pieces-test.true) so_far.copied (record {
          read = to_end _ bytes ended leaves;
          few = small;
          met = inr (sound_at (g.I.Inputs.sources c.read.new.self) 0
              (still_readable _ _ _ _ c.in-Ok.n c.in-Ok.ensures.rest so_far.readable));
          ended = λ none left. ended_now _ _ c.in-Ok.n _ _ so_far.readable c.in-Ok.ensures.rest c.if-n-eq0.true (omega arith);
          last = λ visible vain. absurd (false≢true vain);
          reads = reads_once so_far.copied small so_far.reads (ap (λ (source : Source). source.reads)
              (changed_source 0 (gives _ c.in-Ok.n) _ _ so_far.readable c.in-Ok.ensures.rest));
        }),
        breaks,
      ),
    )

-- a piece passes the limit

pub returns-in_default-clause-copies : goal.returns-in_default-clause-copies
returns-in_default-clause-copies g c =
    let so_far = c.pieces.invariant in
    let small : length (concat so_far.pieces) < 2 ^ 63 = omega (arith, so_far.counted, so_far.small) in
    let (content, rest, is, bytes, leaves, breaks) = seen_more _ _ _ _ _ _ so_far.read so_far.readable c.in-Ok.ensures.bytes c.in-Ok.ensures.rest in
    let piece = take c.in-Ok.n c.read.new.buffer in
    let long : length (concat so_far.pieces ++ piece) ≡ c.pieces.fed + c.in-Ok.n = sym
    (counted_more (concat so_far.pieces) c.read.new.buffer c.in-Ok.n so_far.counted (omega (arith, c.in-Ok.ensures.bound, c.read.auto.buffer)) refl) in (
      content,
      is,
      (
        reads_copied so_far.known (sym c.is_done.ensures ∙ c.pieces-test.true) so_far.copied (record {
          read = to_limit (concat so_far.pieces) piece rest bytes (omega arith)
              (omega (arith, length-take c.in-Ok.n c.read.new.buffer)) leaves;
          few = small;
          met = inr (sound_at (g.I.Inputs.sources c.read.new.self) 0
              (still_readable _ _ _ _ c.in-Ok.n c.in-Ok.ensures.rest so_far.readable));
          ended = λ none. absurd (cc);
          last = λ visible vain. absurd (false≢true vain);
          reads = reads_once so_far.copied small so_far.reads (ap (λ (source : Source). source.reads)
              (changed_source 0 (gives _ c.in-Ok.n) _ _ so_far.readable c.in-Ok.ensures.rest));
        }),
        breaks,
      ),
    )

-- the outputs that are broken end the run

pub returns-clause-copies : goal.returns-clause-copies
returns-clause-copies g c =
    let so_far = c.pieces.invariant in
    let (content, rest, is, bytes, leaves, breaks) = seen_so_far _ _ _ _ so_far.read so_far.readable in (
      content,
      is,
      (
        reads_copied so_far.known (sym c.is_done.ensures ∙ c.pieces-test.false) so_far.copied (record {
          read = to_broken_output _ rest bytes leaves;
          few = omega (arith, so_far.counted, so_far.small);
          met = inr (sound_at (g.I.Inputs.sources c.pieces.inputs) 0 so_far.readable);
          ended = λ none left. absurd (false≢true (sym left));
          last = λ visible vain. so_far.last visible;
          reads = omega arith;
        }),
        breaks,
      ),
    )
