use Rattle.wc_archive_file.proofs.Objects.{other_parts}
use Rattle.wc_archive_file.proofs.nodes.link_in.Goals as goal

pub returns-else-parts-eq4 : goal.returns-else-parts-eq4
returns-else-parts-eq4 c = λ l fits is. other_parts _ c.if-parts-eq4.false l is
