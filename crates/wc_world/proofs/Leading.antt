-- Changes that a draft takes one after another.
use Rattle.std.proofs.Common.{◌≡◌, ℕ, List, ◌∷◌, ◌++◌, refl, sym, subst, inr, ◌∙◌, ap}
use Rattle.wc_world.specs.declared.change.Change.{Change}
use Rattle.wc_world.specs.declared.draft.Draft.{Draft}
use Rattle.wc_world.specs.declared.terms.Terms.{Terms}
use Rattle.wc_world.specs.World.{World}
use Rattle.wc_world.specs.Applied.{after_change, changed}
use Rattle.wc_world.specs.Accepted.{Setting, Apply, FirstRefused}
use Rattle.wc_world.specs.Drafts.{drafted, Ascends, AreSettledBut, Tells, FitsBy, touched_by}
use Rattle.wc_world.specs.Playing.{Leads}
use Rattle.wc_world.specs.Called.{AwaitsCalled, SetsFitting}
use Rattle.wc_world.proofs.Ascents.{change_ascends}
use Rattle.wc_world.proofs.Awaiting.{change_awaits}
use Rattle.wc_world.proofs.Unsettled.{settled_change}

pub leads_first : (t : Terms) (d : Draft) (cs : List Change) → Ascends (drafted d) → AwaitsCalled (drafted d)
    → AreSettledBut d.touched.items d.graph.links d.records.0 → Leads t (drafted d) cs d cs
leads_first t d cs up awaits but = record { whole = refl; takes = λ h. h; refuses = λ e h. h; ascending = up; awaits = awaits; settled = but }

-- the rest, where it equals what is in hand
pub leads_as : (t : Terms) (w : World) (cs : List Change) (d : Draft) (xs ys : List Change) → xs ≡ ys → Leads t w cs d xs → Leads t w cs d ys
leads_as t w cs d xs ys same h = subst (λ (zs : List Change). Leads t w cs d zs) same h

module _ (t : Terms) (w : World) (cs : List Change) (d : Draft) (c : Change) (rest : List Change) (h : Leads t w cs d (c ∷ rest)) where
  pub leads_next : (n : Draft) → SetsFitting (drafted d) c → FitsBy t (drafted d) c → drafted n ≡ after_change t.batch (drafted d) c
      → n.touched.items ≡ d.touched.items ++ touched_by (drafted d) c → Leads t w cs n rest
  leads_next n sets fits after touched = record {
    whole = ap (λ (v : World). changed t.batch v rest) after ∙ h.whole;
    takes = λ each. h.takes (λ s told. (fits s told, at_batch s told (λ v. Apply s v rest) (each s told)));
    refuses = λ e first. h.refuses e (λ s told. inr (fits s told, at_batch s told (λ v. FirstRefused s v rest e) (first s told)));
    ascending = subst Ascends (sym after) (change_ascends t.batch (drafted d) c h.ascending);
    awaits = subst AwaitsCalled (sym after) (change_awaits t.batch (drafted d) c sets h.awaits);
    settled =
        subst (λ (ts : List ℕ). AreSettledBut ts n.graph.links n.records.0) (sym touched)
        (subst (λ (v : World). AreSettledBut (d.touched.items ++ touched_by (drafted d) c) v.links v.records) (sym after)
        (settled_change t.batch d.touched.items (drafted d) c h.settled));
  }
    where
      at_batch : (s : Setting) → Tells t s → (P : World → Type 0) → P (drafted n) → P (after_change s.batch (drafted d) c)
      at_batch s told P p = subst P (after ∙ ap (λ (b : ℕ). after_change b (drafted d) c) (sym told.batch)) p
