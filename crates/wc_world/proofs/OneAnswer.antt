-- Changes are taken or refused, and refused in one way.
use Rattle.std.proofs.Common.{◌≡◌, Bool, true, false, List, [], ◌∷◌, sym, ap, ◌∙◌, ⊎_elim, arith}
use Rattle.std.specs.Prelude.{◌&&◌, nat_le}
use Rattle.std.proofs.lemmas.Bool.{false≢true}
use Rattle.std.proofs.lemmas.Bool.Decides.{leb_tells}
use Rattle.std.proofs.lemmas.Option.{same_Some}
use Rattle.wc_graph.specs.declared.link.Link.{Link}
use Rattle.wc_state.specs.declared.record.ProcessRecord.{ProcessRecord}
use Rattle.wc_world.specs.declared.change.Change.{Change}
use Rattle.wc_world.specs.declared.change.Change.TheVariants as change
use Rattle.wc_records.specs.declared.change.SetProcess.{SetProcess}
use Rattle.wc_world.specs.declared.error.WorldError.{WorldError}
use Rattle.wc_world.specs.declared.error.WorldError.TheVariants as error
use Rattle.wc_world.specs.World.{World}
use Rattle.wc_world.specs.Fits.{set_fits}
use Rattle.wc_world.specs.Applied.{after_change, begun}
use Rattle.wc_world.specs.Accepted.{Setting, setting, Fits, Refuses, RefusesLink, source_fits, Apply, FirstRefused}
use Rattle.wc_world.specs.Laws.{NotBoth, OneRefusal}
use Rattle.wc_world.proofs.OneRule.{not_graph, one_graph}

both_ways : (b : Bool) → b ≡ true → b ≡ false → ⊥
both_ways b t f = false≢true (sym f ∙ t)

both_true : (a b : Bool) → a ≡ true → b ≡ true → a && b ≡ true
both_true a b h k = ap (λ t. t && b) h ∙ k

not_link : (w : World) (l : Link) (e : WorldError) (s : Setting) → Fits s w (change.Link l) → RefusesLink w l e → ⊥
not_link w l (error.Graph g) s f h = not_graph w.nodes w.links l g f.0 h
not_link w l (error.NoProcess id) s f h = h
not_link w l (error.BadRecord id) s f h = both_ways _ (f.1 h.2) h.3
not_link w l error.OutOfMemory s f h = h

not_set : (s : Setting) (w : World) (c : SetProcess) (r q : ProcessRecord) → r ≡ q → set_fits w c r ≡ true → source_fits s w c r ≡ true
    → set_fits w c q && source_fits s w c q ≡ false → ⊥
not_set s w c r q same a b h =
    both_ways _ (ap (λ (x : ProcessRecord). set_fits w c x && source_fits s w c x) (sym same) ∙ both_true _ _ a b) h

not_both : (s : Setting) (w : World) (c : Change) (e : WorldError) → Fits s w c → Refuses s w c e → ⊥
not_both s w (change.Library l names) e f h = both_ways _ f h.1
not_both s w (change.Data v) e f h = ⊎_elim (λ p. omega (arith, p.1, f.0)) (λ p. omega (arith, p.2, f.1)) h
not_both s w (change.Process n) e f h = ⊎_elim (λ p. omega (arith, p.1, f.0)) (λ p. both_ways _ f.1 p.2) h
not_both s w (change.Link l) e f h = not_link w l e s f h
not_both s w (change.Set c) e f h =
    ⊎_elim (λ p. absurd (cc (sym f.1 ∙ p.1)))
    (λ p. not_set s w c f.0 p.1.0 (same_Some f.0 p.1.0 (sym f.1 ∙ p.1.1)) f.2 f.3 p.1.2) h
not_both s w (change.Count n) e f h =
    both_ways _ (both_true s.snapshot (nat_le n 4000000000) f.0 (⊎_elim (λ t. t.0) (λ t. absurd (omega (arith, t.1, f.1))) (leb_tells n 4000000000))) h.1
not_both s w (change.Kept k) e f h = both_ways _ f h.1

one_link : (w : World) (l : Link) (d e : WorldError) → RefusesLink w l d → RefusesLink w l e → d ≡ e
one_link w l (error.Graph g) (error.Graph g') h k = ap error.Graph (one_graph w.nodes w.links l g g' h k)
one_link w l (error.Graph g) (error.NoProcess id) h k = absurd k
one_link w l (error.Graph g) (error.BadRecord id) h k = absurd (not_graph w.nodes w.links l g k.1 h)
one_link w l (error.Graph g) error.OutOfMemory h k = absurd k
one_link w l (error.NoProcess id) e h k = absurd h
one_link w l (error.BadRecord id) (error.Graph g) h k = absurd (not_graph w.nodes w.links l g h.1 k)
one_link w l (error.BadRecord id) (error.NoProcess id') h k = absurd k
one_link w l (error.BadRecord id) (error.BadRecord id') h k = ap error.BadRecord (h.0 ∙ sym k.0)
one_link w l (error.BadRecord id) error.OutOfMemory h k = absurd k
one_link w l error.OutOfMemory e h k = absurd h

one_refusal : (s : Setting) (w : World) (c : Change) (d e : WorldError) → Refuses s w c d → Refuses s w c e → d ≡ e
one_refusal s w (change.Library l names) d e h k = h.0 ∙ sym k.0
one_refusal s w (change.Data v) d e h k =
    ⊎_elim (λ p. ⊎_elim (λ q. p.0 ∙ sym q.0) (λ q. absurd (omega (arith, p.1, q.1))) k)
    (λ p. ⊎_elim (λ q. absurd (omega (arith, p.1, q.1))) (λ q. p.0 ∙ sym q.0) k) h
one_refusal s w (change.Process n) d e h k =
    ⊎_elim (λ p. ⊎_elim (λ q. p.0 ∙ sym q.0) (λ q. absurd (omega (arith, p.1, q.1))) k)
    (λ p. ⊎_elim (λ q. absurd (omega (arith, p.1, q.1))) (λ q. p.0 ∙ sym q.0) k) h
one_refusal s w (change.Link l) d e h k = one_link w l d e h k
one_refusal s w (change.Set c) d e h k =
    ⊎_elim (λ p. ⊎_elim (λ q. p.0 ∙ sym q.0) (λ q. absurd (cc (sym q.1.1 ∙ p.1))) k)
    (λ p. ⊎_elim (λ q. absurd (cc (sym p.1.1 ∙ q.1))) (λ q. p.0 ∙ sym q.0) k) h
one_refusal s w (change.Count n) d e h k = h.0 ∙ sym k.0
one_refusal s w (change.Kept l) d e h k = h.0 ∙ sym k.0

not_first : (s : Setting) (w : World) (cs : List Change) (e : WorldError) → Apply s w cs → FirstRefused s w cs e → ⊥
not_first s w [] e f h = h
not_first s w (c ∷ cs) e f h = ⊎_elim (λ p. not_both s w c e f.0 p) (λ p. not_first s (after_change s.batch w c) cs e f.1 p.1) h

one_first : (s : Setting) (w : World) (cs : List Change) (d e : WorldError) → FirstRefused s w cs d → FirstRefused s w cs e → d ≡ e
one_first s w [] d e h k = absurd h
one_first s w (c ∷ cs) d e h k =
    ⊎_elim (λ p. ⊎_elim (λ q. one_refusal s w c d e p q) (λ q. absurd (not_both s w c d q.0 p)) k)
    (λ p. ⊎_elim (λ q. absurd (not_both s w c e p.0 q)) (λ q. one_first s (after_change s.batch w c) cs d e p.1 q.1) k) h

pub taken_or_refused : NotBoth
taken_or_refused w cs e f h =
    ⊎_elim (λ p. omega (arith, p.1, f.batch))
    (λ t. ⊎_elim (λ p. not_first (setting w cs) (begun w) cs e f.each p.1) (λ p. absurd (cc (sym p.2.1 ∙ f.settled))) t) h

pub refused_once : OneRefusal
refused_once w cs d e h k =
    ⊎_elim
    (λ p. ⊎_elim (λ q. p.0 ∙ sym q.0) (λ t. absurd (⊎_elim (λ q. omega (arith, p.1, q.0)) (λ q. omega (arith, p.1, q.0)) t)) k)
    (λ t. ⊎_elim (λ q. absurd (⊎_elim (λ p. omega (arith, p.0, q.1)) (λ p. omega (arith, p.0, q.1)) t))
    (λ u. ⊎_elim
    (λ p. ⊎_elim (λ q. one_first (setting w cs) (begun w) cs d e p.1 q.1) (λ q. absurd (not_first (setting w cs) (begun w) cs d q.1 p.1)) u)
    (λ p. ⊎_elim (λ q. absurd (not_first (setting w cs) (begun w) cs e p.1 q.1))
    (λ q. p.2.2 ∙ ap error.BadRecord (same_Some p.2.0 q.2.0 (sym p.2.1 ∙ q.2.1)) ∙ sym q.2.2) u) t) k) h
