-- What private calls say of choices and of options of `csplit`. Only the bytes of their texts count.
use Rattle.std.specs.Prelude.{Result, Ok, Err, option_map}
use Rattle.ports_core.specs.declared.fault.UsageKind.{UsageKind}
use Rattle.words_core.specs.{
  Choice.seen,
  Format.{format_seen, text},
  declared.{choice.Choice.Choice, csplit_words.CsplitOptions.CsplitOptions},
}

abbrev pub seen_in : Result Choice UsageKind → Result Choice UsageKind
seen_in (Ok choice) = Ok (seen choice)
seen_in (Err fault) = Err fault

abbrev pub options_seen : CsplitOptions → CsplitOptions
options_seen asked = record asked {
  prefix = text asked.prefix.now;
  format = option_map format_seen asked.format;
}
