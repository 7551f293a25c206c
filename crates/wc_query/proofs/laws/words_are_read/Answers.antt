use Rattle.std.proofs.Common.{refl}
use Rattle.wc_query.specs.Pieces.{behind, without_star, pieces}
use Rattle.wc_query.specs.Names.{is_kind, is_state, link_type_of, field_of, op_of, way_of}
use Rattle.wc_query.specs.Words.{filter_of, node_of, link_of, query_of}
use Rattle.wc_query.proofs.laws.words_are_read.Goals as goal

pub returns-clause-links : goal.returns-clause-links
unfolding behind without_star pieces is_kind is_state link_type_of field_of op_of way_of filter_of node_of link_of query_of
returns-clause-links c = refl

pub returns-clause-walks : goal.returns-clause-walks
unfolding behind without_star pieces is_kind is_state link_type_of field_of op_of way_of filter_of node_of link_of query_of
returns-clause-walks c = refl

pub returns-clause-operands : goal.returns-clause-operands
unfolding behind without_star pieces is_kind is_state link_type_of field_of op_of way_of filter_of node_of link_of query_of
returns-clause-operands c = (refl, refl)

pub returns-clause-refusals : goal.returns-clause-refusals
unfolding behind without_star pieces is_kind is_state link_type_of field_of op_of way_of filter_of node_of link_of query_of
returns-clause-refusals c = (refl, refl, refl, refl, refl, refl, refl, refl, refl, refl, refl, refl)
