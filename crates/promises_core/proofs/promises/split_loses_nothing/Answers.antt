use Rattle.std.proofs.Common.{[], ◌≡◌, ◌∙◌, ap, arith, get_or, length, refl, sym}
use Rattle.std.specs.List.{flat_map, range_with_len}
use Rattle.seg_core.specs.Line.{line_count}
use Rattle.split_core.{
  proofs.{
    ChunkLemmas.{all_pieces, begin_in_chunks, count_chunks, even_chunks, join_chunks},
    ChunkAgreedLemmas.joined-kept,
  },
  specs.{Parts.round_robin, Chunks.{KeepLines, chunks_in}, inner.Dealt.share_of, laws.ChunkLaws.map_same},
}
use Rattle.promises_core.{
  specs.Promises.{AreChunks, AreDealt, AreLinePieces, ArePieces, AreUncut, output_of, text_at},
  proofs.SplitPromises.{chunk_as_shown, cut_as_shown, flat_alike, by_way, byte_pieces, dealt_lines, is_split},
  proofs.SplitPromises.{line_byte_pieces, line_ends, line_pieces, one_line_list, turn_is, turn_lines},
  proofs.SplitPromises.{whole_line_files, wrote_alone},
}
use Rattle.promises_core.proofs.promises.split_loses_nothing.Goals as goal

pub returns : goal.returns
returns c = record {
  listed = λ split asked input does has. (is_split does has).listed;
  told = λ split asked input does has makes. (is_split does has).told makes;
  lines = λ split asked n delim input. by_way (ArePieces (line_count delim) n input) (line_pieces delim);
  uncut = λ split asked n delim input. by_way (AreUncut delim) (line_ends delim input);
  bytes = λ split asked n input. by_way (ArePieces length n input) byte_pieces;
  line_bytes = λ split asked n delim input. by_way (AreLinePieces delim n input) line_byte_pieces;
  one_list = one_line_list;
  dealt = λ split asked n delim input. by_way (AreDealt delim n asked.elide input) (λ some. dealt_lines some.0);
  chunks = λ split asked chunks input splits. by_way (AreChunks chunks.count asked.elide input (chunks_in chunks input))
      (λ some. record {
        count = count_chunks chunks input some.0;
        files = refl;
        all = joined-kept asked.elide (chunks_in chunks input) ∙ join_chunks chunks input some.0;
      }) splits.does splits.has splits.is;
  even = even_chunks;
  whole_lines = λ split asked chunks input splits unit. by_way (KeepLines chunks.delim input)
      (λ some. whole_line_files chunks asked.elide input some.0 unit) splits.does splits.has splits.is;
  first_bytes = begin_in_chunks;
  alone = λ one asked input does has makes. (is_split does has).none makes;
  chunk = λ one asked place chunks input splits. wrote_alone splits refl;
  turn = λ one split alone asked place n delim input splits too elide. turn_is splits
      ∙ sym (by_way (λ contents. text_at contents place ≡ text_at (round_robin delim n input) place) (λ some. rw elide refl)
      too.does too.has too.is);
  turn_lines = λ one asked place n delim k input splits. turn_lines splits k;
  together = λ runs asked chunks input some each. flat_alike (λ place. output_of (runs place))
      (λ place. get_or (chunks_in chunks input) place []) 0 chunks.count
      (λ place within. wrote_alone (each place (omega (arith, within))) refl)
      ∙ ap (λ n. flat_map (λ place. get_or (chunks_in chunks input) place []) (range_with_len 0 n)) (sym (count_chunks chunks input some))
      ∙ all_pieces (chunks_in chunks input) 0 (chunks_in chunks input) (λ i. ap (λ at. get_or (chunks_in chunks input) at []) (omega arith))
      ∙ join_chunks chunks input some;
  changed = λ split asked chunks input shown bytes splits. cut_as_shown splits splits.is;
  chunk_changed = λ one asked place chunks input shown bytes splits. chunk_as_shown splits splits.is;
  turns = λ runs asked n delim input some each.
      rw (map_same (λ place. output_of (runs place)) (share_of delim n input) 0 n
      (λ place from within. wrote_alone (each place (omega (arith, within))) refl)) (dealt_lines some);
}
