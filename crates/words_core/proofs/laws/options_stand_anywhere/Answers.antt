use Rattle.std.proofs.Common.{rules, refl}
use Rattle.ports_core.specs.declared.slot.Mode.TheVariants.{Append}
use Rattle.words_core.specs.{
  CsplitWords.{csplit_by, plain},
  Given.texts_of,
  EndsWords.{ends_by, ten_lines},
  SplitWords.{no_options, split_by},
  Laws.{appends, drops_sizes, elides_files, ends_with_zero, has, keeps_files, leaves_lines_out, tells_of_files},
  TeeWords.{fresh, tee_by},
}
use Rattle.words_core.proofs.{
  ChoiceLemmas.{append_is, given_anywhere, so_where_given},
}
use Rattle.words_core.proofs.laws.options_stand_anywhere.Goals as goal

pub returns : goal.returns
returns c = record {
  keep = so_where_given csplit_by (λ asked. asked.keep) keeps_files (λ a c. search rules) plain refl;
  quiet = so_where_given csplit_by (λ asked. asked.quiet) drops_sizes (λ a c. search rules) plain refl;
  elide = so_where_given csplit_by (λ asked. asked.elide) elides_files (λ a c. search rules) plain refl;
  suppress = so_where_given csplit_by (λ asked. asked.suppress) leaves_lines_out (λ a c. search rules) plain refl;
  leave_out = so_where_given split_by (λ asked. asked.elide) elides_files (λ a c. search rules) no_options refl;
  tell = so_where_given split_by (λ asked. asked.verbose) tells_of_files (λ a c. search rules) no_options refl;
  zero = λ names. given_anywhere ends_by (λ asked. asked.delim) ends_with_zero 0 (λ a c. search rules) (ten_lines names);
  append = λ calling given.
      rw (given_anywhere tee_by (λ asked. asked.mode) appends Append (λ a c. search rules)
      (fresh calling (texts_of given.operands)) given.options) (append_is (has appends given.options));
}
