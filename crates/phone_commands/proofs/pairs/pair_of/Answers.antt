use Rattle.std.proofs.Common.{Err, ap, subst, ◌∙◌, sym}
use Rattle.csv.specs.Records.{fields_of}
use Rattle.phone_csv.specs.Quotes.{IsOpenHeader}
use Rattle.phone_commands.specs.Pairs.{HasRecord}
use Rattle.phone_commands.specs.Pairs.IsNoPair.{unclosed}
use Rattle.phone_commands.proofs.PairLemmas.{of_all, read-record, told-pair}
use Rattle.phone_commands.proofs.pairs.pair_of.Goals as goal

pub returns-in-Ok : goal.returns-in-Ok
returns-in-Ok c =
    let first = c.in-Ok.first in
    let told = c.in-Ok.ensures in
    let fields = fields_of first.fields in
    let has = read-record c.new.result _ fields first.has_mark first.rest told.ended told.only
    told.end in
    told-pair fields_of c.args.line.now fields c.pair_in.result
    (sym c.has_tab.ensures ∙ c.if-has_tab.false) (subst (λ t. HasRecord t
    (fields_of first.fields)) c.new.ensures has) c.pair_in.ensures

pub returns-in-Err-Quote : goal.returns-in-Err-Quote
returns-in-Err-Quote c =
    let at = c.in-Err-Quote.field-0-0 in
    let is = ap Err c.in-Err-Quote.field-0-is in
    unclosed at (subst (λ t. IsOpenHeader 44 at t) c.new.ensures
    (of_all c.new.result _ (IsOpenHeader 44 at) (c.in-Err-Quote.ensures.quote_end at is)
    (c.in-Err-Quote.ensures.quote at is)))
