use Rattle.std.proofs.Common.{map}
use Rattle.ports_core.specs.declared.reason.Reason.TheVariants.{Other}
use Rattle.tools_core.proofs.RunLemmas.{plain_refusal, refused_by_line, refused_usage}
use Rattle.tools_core.proofs.run.refuse_words.Goals as goal

pub returns-in-Usage : goal.returns-in-Usage
returns-in-Usage g c =
    rw c.in-Usage.is (refused_usage _ _ c.refuser-speaker.ensures c.requires (c.say_line.ensures Other _ c.refusal-line.ensures))

pub returns-in_default : goal.returns-in_default
returns-in_default g c =
    let plain = plain_refusal c.args.calling (map (λ word. word.now) c.args.words.now) c.args.fault.now c.in_default.not-Usage in
    refused_by_line _ c.requires (rw (c.refuser-speaker.ensures, plain) at c.say.ensures)
