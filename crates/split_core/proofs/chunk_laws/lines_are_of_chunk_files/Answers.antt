use Rattle.split_core.proofs.chunk_laws.lines_are_of_chunk_files.Goals as goal

pub returns : goal.returns
returns c = record {
  settled = λ plan said is x. rw is;
  whole = λ plan said is x. rw is;
  none = λ plan said is x. rw is;
}
