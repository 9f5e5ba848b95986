use Rattle.bre_core.proofs.GnuSpelling.{plain_text, read_text}
use Rattle.bre_core.proofs.laws.gnu_spelling_adds.Goals as goal

pub returns : goal.returns
returns c = record { plain = plain_text; read = read_text }
