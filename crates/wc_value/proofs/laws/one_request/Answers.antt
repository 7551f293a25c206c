use Rattle.wc_value.proofs.Variants.{same_requests}
use Rattle.wc_value.proofs.laws.one_request.Goals as goal

pub returns : goal.returns
returns c = same_requests
