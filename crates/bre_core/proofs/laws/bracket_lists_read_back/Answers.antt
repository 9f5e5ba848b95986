use Rattle.bre_core.proofs.Spelled.{list_read, list_found, same_list, any_list}
use Rattle.bre_core.proofs.laws.bracket_lists_read_back.Goals as goal

pub returns : goal.returns
returns c = record { read = list_read; spelled = list_found; one_way = same_list; any_members = any_list }
