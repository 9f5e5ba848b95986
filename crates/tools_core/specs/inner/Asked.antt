-- What private calls say of a run whose words are read.
use Rattle.run_core.specs.RunEnds.{RunsOver}
use Rattle.words_core.specs.declared.settings.Settings.{Settings}
use Rattle.tools_core.specs.{Outcome.DoesAsked, Run.{Run, Visible}, Tasks.names_of}

-- a run over the inputs that these settings name did what they ask for
abbrev pub RunsAsked : Visible → Run → Settings → Type 0
RunsAsked visible run settings =
    RunsOver visible.inputs run.world (names_of settings) (λ found. DoesAsked visible run found settings)
