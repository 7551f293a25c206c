use Rattle.wc_matches.proofs.Names.{types_are_read, kinds_are_read, states_are_read}
use Rattle.wc_matches.proofs.laws.names_are_read.Goals as goal

pub returns : goal.returns
returns c = record { types = types_are_read; kinds = kinds_are_read; states = states_are_read }
