use Rattle.std.proofs.Common.{◌≡◌, ◌∙◌, ap, sym, ℕ, Bool, false, nat_eq, if◌then◌else◌, None, codes}
use Rattle.std.specs.Option.{option_map}
use Rattle.std.proofs.lemmas.Bool.{ne_eqb}
use Rattle.serde_json.proofs.Views.{members_len-members_view, view-lookup, view_of_ref}
use Rattle.serde_json.specs.Events.{members_len}
use Rattle.serde_json.specs.Find.{get_member}
use Rattle.serde_json.specs.View.{view, members_view}
use Rattle.wc_json.proofs.reading.digits_in.Goals as goal

pub returns-then-len-eq1 : goal.returns-then-len-eq1
returns-then-len-eq1 c =
    let es = c.args.members.now.entries in
    let found = get_member (codes "hex") (members_view es) in
    let one : members_len (members_view es) ≡ 1 = members_len-members_view es ∙ sym c.len.ensures.len ∙ c.if-len-eq1.true in
    view_of_ref c.get.result ∙ ap (λ o. option_map view o) c.get.ensures.value ∙ view-lookup (codes "hex") es
    ∙ sym (ap (λ (n : ℕ). if nat_eq n 1 then found else None) one)

pub returns-else-len-eq1 : goal.returns-else-len-eq1
returns-else-len-eq1 c =
    let es = c.args.members.now.entries in
    let found = get_member (codes "hex") (members_view es) in
    let other : nat_eq (members_len (members_view es)) 1 ≡ false =
    ne_eqb (members_len (members_view es)) 1 (λ one. c.if-len-eq1.false (c.len.ensures.len ∙ sym (members_len-members_view es) ∙ one)) in
    sym (ap (λ (b : Bool). if b then found else None) other)
