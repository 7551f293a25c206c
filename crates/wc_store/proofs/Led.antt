-- Stores that lead to others, one after another.
use Rattle.std.proofs.Common.{◌≡◌, refl, subst, ◌∙◌}
use Rattle.wc_store.specs.declared.place.Place.{Place}
use Rattle.wc_store.specs.declared.store.Store.{Store}
use Rattle.wc_store.specs.Stores.{other, LeadsTo}

pub leads_same : (store : Store) → LeadsTo store store
leads_same store = λ one two o. record { one_new = one; two_new = two; rest = refl; are = o }

pub leads_on : (store mid new : Store) → mid.place ≡ store.place → LeadsTo store mid → LeadsTo mid new → LeadsTo store new
leads_on store mid new same first second =
    λ one two o.
    let f = first one two o in
    let s = second f.one_new f.two_new f.are in
    record {
      one_new = s.one_new;
      two_new = s.two_new;
      rest = subst (λ (p : Place). other p s.one_new s.two_new ≡ other p f.one_new f.two_new) same s.rest ∙ f.rest;
      are = s.are;
    }
