use Rattle.std.proofs.Common.{◌≡◌, ◌+◌, ◌∙◌, ℕ, drop, length, None, sym, ap, subst, arith}
use Rattle.wc_journal.specs.Reading.{size_of, stated, wrong_kind}
use Rattle.wc_journal.specs.Framing.{HasFrame}
use Rattle.wc_journal.proofs.Loading.{too_short, has_frame}
use Rattle.wc_journal.proofs.image.frame_behind.Goals as goal

pub returns-then-behind-size-clause-refused : goal.returns-then-behind-size-clause-refused
returns-then-behind-size-clause-refused c =
    let a = c.args in
    let back : c.split_at.result.1.now ≡ drop (a.gate + 1) a.image.now = c.split_at.ensures.back in
    let right : wrong_kind a.version a.generation a.place (drop (a.gate + 1) a.image.now) ≡ None
    = ap (wrong_kind a.version a.generation a.place) (sym back) ∙ sym c.misfit_kind.ensures ∙ c.in_default.is in
    too_short a.version a.generation a.place a.gate a.image.now c.requires.within c.requires.is_open right (omega (arith, ap length back))

pub returns-then-len-behind-clause-refused : goal.returns-then-len-behind-clause-refused
returns-then-len-behind-clause-refused c =
    let a = c.args in
    let back : c.split_at.result.1.now ≡ drop (a.gate + 1) a.image.now = c.split_at.ensures.back in
    let right : wrong_kind a.version a.generation a.place (drop (a.gate + 1) a.image.now) ≡ None
    = ap (wrong_kind a.version a.generation a.place) (sym back) ∙ sym c.misfit_kind.ensures ∙ c.in_default.is in
    let len : c.stated_len-len.result ≡ stated a.version (drop (a.gate + 1) a.image.now) = c.stated_len-len.ensures ∙ ap (stated a.version) back in
    too_short a.version a.generation a.place a.gate a.image.now c.requires.within c.requires.is_open right (omega (arith, ap length back, len))

pub returns-clause-ok : goal.returns-clause-ok
returns-clause-ok c =
    let a = c.args in
    let back : c.split_at.result.1.now ≡ drop (a.gate + 1) a.image.now = c.split_at.ensures.back in
    let right : wrong_kind a.version a.generation a.place (drop (a.gate + 1) a.image.now) ≡ None
    = ap (wrong_kind a.version a.generation a.place) (sym back) ∙ sym c.misfit_kind.ensures ∙ c.in_default.is in
    let len : c.stated_len-len.result ≡ stated a.version (drop (a.gate + 1) a.image.now) = c.stated_len-len.ensures ∙ ap (stated a.version) back in
    let size : c.size-size.result ≡ size_of a.version = c.size-size.ensures in
    let frame = has_frame a.version a.generation a.place a.gate a.image.now c.requires.within c.requires.is_open right (omega (arith, ap length back, len)) in
    subst (λ (n : ℕ). HasFrame a.version a.generation a.place a.gate a.image.now (a.gate + 1 + c.size-size.result, n)) (sym len)
    (subst (λ (s : ℕ). HasFrame a.version a.generation a.place a.gate a.image.now (a.gate + 1 + s, stated a.version (drop (a.gate + 1) a.image.now))) (sym size) frame)
