use Rattle.std.proofs.Common.{◌||◌, Bool, true, false, List, sym, ap, ◌∙◌}
use Rattle.std.specs.Prelude.{flat_map, option_map}
use Rattle.wc_syntax.specs.Mentions.{mentions, or_none}
use Rattle.wc_syntax.specs.declared.expression.Expr.{Expr}
use Rattle.wc_outline.specs.Keys.{mentions_key}
use Rattle.wc_outline.proofs.Mentions.{goes_on, ends_there, in_first, in_second, same_is, form_list, form_binary, form_two, form_child}
use Rattle.wc_outline.proofs.keys.+mentions_key.Goals as goal

pub one_mentions_key-returns-then-mentions_key : goal.one_mentions_key-returns-then-mentions_key
one_mentions_key-returns-then-mentions_key t c =
    ends_there mentions c.args.key.now c.args.exprs.now c.loop-expr.expr-index c.expr-item.result _ c.loop-expr.invariant c.loop-expr-test.true c.expr-item.is (sym c.mentions_key.ensures ∙ c.if-mentions_key.true)

pub one_mentions_key-loop-expr-preserved : goal.one_mentions_key-loop-expr-preserved
one_mentions_key-loop-expr-preserved t c =
    goes_on mentions c.args.key.now c.args.exprs.now c.loop-expr.expr-index c.expr-item.result _ c.loop-expr.invariant c.loop-expr-test.true c.expr-item.is (sym c.mentions_key.ensures ∙ c.if-mentions_key.false)

pub form_mentions_key-returns-in-List : goal.form_mentions_key-returns-in-List
form_mentions_key-returns-in-List t c =
    c.one_mentions_key.ensures ∙ ap (λ (es : List Expr). mentions_key c.args.key.now (flat_map mentions es)) c.as_slice.ensures
    ∙ sym (ap (mentions_key c.args.key.now) (form_list c.args.form.now c.in-List.exprs c.in-List.is))

pub form_mentions_key-returns-else-same_text : goal.form_mentions_key-returns-else-same_text
form_mentions_key-returns-else-same_text t c =
    let key = c.args.key.now in
    let n = c.in-Child.name in
    let other = sym (same_is c.same_text.result n.text key c.same_text.ensures) ∙ c.if-same_text.false in
    c.index_mentions_key.ensures
    ∙ sym (form_child key c.args.form.now c.in-Child.field-0 n c.in-Child.index c.in-Child.field-3 c.in-Child.is
    ∙ ap (λ (b : Bool). b || mentions_key key (or_none (option_map mentions c.in-Child.index))) other)

pub form_mentions_key-returns-then-mentions_key : goal.form_mentions_key-returns-then-mentions_key
form_mentions_key-returns-then-mentions_key t c =
    let key = c.args.key.now in
    let b = c.in-Binary in
    c.if-mentions_key.true
    ∙ sym (ap (mentions_key key) (form_binary c.args.form.now b.field-0 b.left b.right b.is)
    ∙ in_first key (mentions b.left) (mentions b.right)
    (ap (λ (e : Expr). mentions_key key (mentions e)) (sym c.get.ensures) ∙ sym c.mentions_key.ensures ∙ c.if-mentions_key.true))

pub form_mentions_key-returns-else-mentions_key : goal.form_mentions_key-returns-else-mentions_key
form_mentions_key-returns-else-mentions_key t c =
    let key = c.args.key.now in
    let b = c.in-Binary in
    c.mentions_key-else-mentions_key.ensures ∙ ap (λ (e : Expr). mentions_key key (mentions e)) c.get-else-mentions_key.ensures
    ∙ sym (ap (mentions_key key) (form_binary c.args.form.now b.field-0 b.left b.right b.is)
    ∙ in_second key (mentions b.left) (mentions b.right)
    (ap (λ (e : Expr). mentions_key key (mentions e)) (sym c.get.ensures) ∙ sym c.mentions_key.ensures ∙ c.if-mentions_key.false))

pub form_mentions_key-returns-then-mentions_key-2 : goal.form_mentions_key-returns-then-mentions_key-2
form_mentions_key-returns-then-mentions_key-2 t c =
    let key = c.args.key.now in
    let b = c.in-Two in
    c.if-mentions_key-2.true
    ∙ sym (ap (mentions_key key) (form_two c.args.form.now b.field-0 b.first b.second b.is)
    ∙ in_first key (mentions b.first) (mentions b.second)
    (ap (λ (e : Expr). mentions_key key (mentions e)) (sym c.get-in-Two.ensures) ∙ sym c.mentions_key-in-Two.ensures ∙ c.if-mentions_key-2.true))

pub form_mentions_key-returns-else-mentions_key-2 : goal.form_mentions_key-returns-else-mentions_key-2
form_mentions_key-returns-else-mentions_key-2 t c =
    let key = c.args.key.now in
    let b = c.in-Two in
    c.mentions_key-else-mentions_key-2.ensures ∙ ap (λ (e : Expr). mentions_key key (mentions e)) c.get-else-mentions_key-2.ensures
    ∙ sym (ap (mentions_key key) (form_two c.args.form.now b.field-0 b.first b.second b.is)
    ∙ in_second key (mentions b.first) (mentions b.second)
    (ap (λ (e : Expr). mentions_key key (mentions e)) (sym c.get-in-Two.ensures) ∙ sym c.mentions_key-in-Two.ensures ∙ c.if-mentions_key-2.false))
