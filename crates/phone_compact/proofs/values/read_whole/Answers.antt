use Rattle.std.proofs.Common.{rules, subst, inr, sym, ◌∙◌, true≢false}
use Rattle.phone_compact.specs.Forms.{items}
use Rattle.phone_compact.specs.Refusals.{IsRefused}
use Rattle.phone_compact.proofs.Lists.{refused_whole, not_whole}
use Rattle.phone_compact.proofs.values.read_whole.Goals as goal

pub returns-in_err-items-clause-refused : goal.returns-in_err-items-clause-refused
returns-in_err-items-clause-refused g c =
    let form = g.T.Compact.form in
    let e = c.in_err-items.field-0.0 in
    let at_bytes = subst (λ bs. IsRefused (items form) bs e) c.of-from.ensures c.in_err-items.ensures.refused in
    let h = refused_whole form c.args.bytes.now e at_bytes in
    search (rules, h)

pub returns-else-is_at_end-clause-refused : goal.returns-else-is_at_end-clause-refused
returns-else-is_at_end-clause-refused g c =
    inr
    (not_whole g.T.Compact.form g.met.T.Compact.unique c.args.bytes.now c.read_items.new.from c.in_ok-items.items.items
    (sym c.of-from.ensures ∙ c.in_ok-items.ensures.value)
    (λ e. true≢false (sym (c.if-is_at_end.ensures.1 e))))
