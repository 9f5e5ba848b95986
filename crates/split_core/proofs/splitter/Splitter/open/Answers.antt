use Rattle.std.proofs.{Common.{◌∙◌, ap, arith}, lemmas.{Grind.common_steps, Bool.lt-ltb}}
use Rattle.split_core.{
  specs.ChunkerState.{SinkState, course_of, in_files, in_output, work_on},
  proofs.FreshLemmas.settled_none,
}
use Rattle.split_core.proofs.splitter.Splitter.open.Goals as goal

pub returns-in-Chunks-clause-outputs : goal.returns-in-Chunks-clause-outputs
returns-in-Chunks-clause-outputs g c before outputs = rw c.in-Chunks.is
    (rw (settled_none (in_files _ _) _ c.args.said
    (lt-ltb _ _ (rw c.in-Chunks.is at c.requires.some)) c.requires.long) outputs)

pub returns-in-Chunk-clause-outputs : goal.returns-in-Chunk-clause-outputs
returns-in-Chunk-clause-outputs g c before outputs = rw c.in-Chunk.is
    (rw (← (settled_none (in_output _) _ c.args.said
    (lt-ltb _ _ (rw c.in-Chunk.is at c.requires.some)) c.requires.long)) at outputs)

pub returns-in-Cut-Parts-clause-does : goal.returns-in-Cut-Parts-clause-does
returns-in-Cut-Parts-clause-does g c = grind (arith, common_steps, c.open-parts.ensures.does)

pub returns-in-Chunks-clause-does : goal.returns-in-Chunks-clause-does
returns-in-Chunks-clause-does g c = rw (c.in-Chunks.is, c.new-in-Chunks.ensures) (c.open-chunker.ensures.does
    ∙ ap (λ (sink : SinkState). work_on (course_of sink.aim) c.in-Chunks.chunks c.args.said) c.files-sink.ensures)

pub returns-in-Chunk-clause-does : goal.returns-in-Chunk-clause-does
returns-in-Chunk-clause-does g c = rw (c.in-Chunk.is, c.new-in-Chunk.ensures) (c.open-chunker-in-Chunk.ensures.does
    ∙ ap (λ (sink : SinkState). work_on (course_of sink.aim) c.in-Chunk.chunks c.args.said) c.output.ensures)
