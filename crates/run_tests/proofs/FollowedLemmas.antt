-- By `cutters` files are followed by descriptor or by name, and looks show the same for both.
use Rattle.std.proofs.{
  Common.{◌≡◌, ◌⊎◌, ℕ, Bool, true, false, List, [], ◌∷◌, Option, Some, None, Result, Ok, Err, inl, inr, refl, subst},
  Common.{if◌then◌else◌, IfOk, IfSome},
}
use Rattle.ports_core.specs.declared.{
  calling.Calling.TheVariants.Cutters,
  fault.{Fault.{Fault, TheVariants.Usage}, UsageKind.TheVariants.UnknownTool},
  tool.Tool.Tool,
}
use Rattle.words_core.specs.{
  CsplitWords.csplit_asked,
  EndsWords.names_asked,
  Given.{Given, asked_by},
  Spelling.given_by,
  SplitWords.split_asked,
  Table.{ToolRow, row_named, tools},
  TailWords.{bad_follow, by_file, followed_in, has_dash, retry_by, tail_asked, tail_of},
  Value.then_check,
  Words.{about_or, settings_for, settings_of, tool_settings, topic_in, topic_named, work_for},
  declared.{
    settings.{Settings.{Settings, TheVariants.{Csplit, Split, Tail}}, Topic.Topic},
    tail_words.TailSettings.TailSettings,
    value.Followed.{Followed, TheVariants.{Descriptor, Name, PresentName, FirstFile}},
  },
}
use Rattle.promises_core.specs.Promises.{showing}
use Rattle.ports_core.specs.declared.tool.Tool.TheVariants as tool
use Rattle.tools_core.specs.Run.{Run}

abbrev IsPlain : Followed → Type 0
IsPlain followed = (followed ≡ Descriptor) ⊎ (followed ≡ Name)

abbrev AsksPlainly : Settings → Type 0
AsksPlainly (Tail asked) = IfSome asked.followed IsPlain
AsksPlainly settings = Unit {0}

kept : {A B : Type 0} (P : A → Type 0) (Q : B → Type 0) (first : Result A Fault) (next : A → Result B Fault)
    → IfOk first P → ((value : A) → P value → IfOk (next value) Q) → IfOk (then_check first next) Q
kept P Q (Ok value) next is goes = goes value is
kept P Q (Err fault) next is goes = tt

anything : {A : Type 0} (result : Result A Fault) → IfOk result (λ value. Unit {0})
anything (Ok value) = tt
anything (Err fault) = tt

refused_or : (is : Bool) (how : Followed) → IsPlain how
    → IfOk (if is then bad_follow else Ok (Some how)) (λ followed. IfSome followed IsPlain)
refused_or true how plain = tt
refused_or false how plain = plain

file-plain : (names : List (List ℕ)) → IfOk (by_file names Cutters) (λ followed. IfSome followed IsPlain)
file-plain [] = inl refl
file-plain (name ∷ []) = inl refl
file-plain (name ∷ next ∷ names) = refused_or (has_dash (name ∷ next ∷ names)) Descriptor (inl refl)

followed-plain : (followed : Option Followed) (retry : Bool) (names : List (List ℕ))
    → IfOk (followed_in followed retry Cutters names) (λ followed. IfSome followed IsPlain)
followed-plain None false names = tt
followed-plain None true names = tt
followed-plain (Some Descriptor) false names = file-plain names
followed-plain (Some Descriptor) true names = tt
followed-plain (Some Name) true names = refused_or (has_dash names) Name (inr refl)
followed-plain (Some Name) false names = tt
followed-plain (Some PresentName) retry names = tt
followed-plain (Some FirstFile) retry names = tt

tail-plain : (given : Given) → IfOk (tail_asked Cutters given) (λ (asked : TailSettings). IfSome asked.followed IsPlain)
tail-plain given =
    let asked = tail_of (names_asked given.operands) given.options in
    let retry = asked_by retry_by false given.options in
    kept (λ followed. IfSome followed IsPlain) (λ (asked : TailSettings). IfSome asked.followed IsPlain)
    (followed_in asked.followed retry Cutters asked.ends.names) (λ followed. Ok (record asked { followed = followed }))
    (followed-plain asked.followed retry asked.ends.names) (λ followed is. is)

work-plain : (which : Tool) (given : Given) → IfOk (work_for Cutters which given) AsksPlainly
work-plain tool.Tail given =
    kept (λ (asked : TailSettings). IfSome asked.followed IsPlain) AsksPlainly (tail_asked Cutters given)
    (λ asked. Ok (Tail asked)) (tail-plain given) (λ asked is. is)
work-plain tool.Split given =
    kept (λ asked. Unit {0}) AsksPlainly (split_asked given) (λ asked. Ok (Split asked))
    (anything (split_asked given)) (λ asked is. tt)
work-plain tool.Csplit given =
    kept (λ asked. Unit {0}) AsksPlainly (csplit_asked Cutters given) (λ asked. Ok (Csplit asked))
    (anything (csplit_asked Cutters given)) (λ asked is. tt)
work-plain tool.Head given = tt
work-plain tool.Tee given = tt
work-plain tool.Cutters given = tt

about-plain : (which : Tool) (topic : Option Topic) (work : Result Settings Fault) → IfOk work AsksPlainly
    → IfOk (about_or which topic work) AsksPlainly
about-plain which (Some topic) work is = tt
about-plain which None work is = is

row-plain : (name : List ℕ) (words : List (List ℕ)) (row : Option ToolRow)
    → IfOk (tool_settings Cutters name words row) AsksPlainly
row-plain name words None = about-plain tool.Cutters (topic_named name) (Err (Usage UnknownTool 0)) tt
row-plain name words (Some row) =
    kept (λ given. Unit {0}) AsksPlainly (given_by Cutters row words) (settings_for Cutters row.tool)
    (anything (given_by Cutters row words))
    (λ given is. about-plain row.tool (topic_in given.options) (work_for Cutters row.tool given) (work-plain row.tool given))

settings-plain : (words : List (List ℕ)) → IfOk (settings_of Cutters words) AsksPlainly
settings-plain [] = tt
settings-plain (name ∷ words) = row-plain name words (row_named (tools Cutters) name)

shown-plain : (run : Run) (followed : Followed) → run.calling ≡ Cutters → IsPlain followed → showing run followed ≡ run.shows
shown-plain run followed called (inl is) = rw is refl
shown-plain run followed called (inr is) = rw (is, called) refl

-- so looks show what lies there
pub showing-plain : (run : Run) (asked : TailSettings) (followed : Followed) → run.calling ≡ Cutters
    → settings_of Cutters run.words ≡ Ok (Tail asked) → asked.followed ≡ Some followed → showing run followed ≡ run.shows
showing-plain run asked followed called read how =
    shown-plain run followed called
    (subst (λ how. IfSome how IsPlain) how (subst (λ read. IfOk read AsksPlainly) read (settings-plain run.words)))
