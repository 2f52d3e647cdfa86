use Rattle.std.proofs.Common.{◌≡◌, chars, drop, slice_range, take, ap, ap₂, subst, ◌∙◌}
use Rattle.phone_find.specs.Standing.{is_end, is_plain}
use Rattle.phone_find.proofs.Told.{Told, told_endless, told_read, told_rough}
use Rattle.phone_find.specs.Numbers.{IsReadWell}
use Rattle.phone_find.proofs.numbers.number_at.Goals as goal

pub returns-then-not-may_end : goal.returns-then-not-may_end
returns-then-not-may_end c =
    let engine = c.args.engine in
    let text = c.args.text.now in
    let start = c.args.start in
    let end = c.args.end in
    told_endless engine.rules engine.database.now engine.hint c.args.leniency (take start text) (slice_range text start end) (drop end text)
    c.may_end.result (c.may_end.ensures ∙ ap₂ (λ s t. is_end (chars s) (chars t)) c.range.ensures.value c.range_from.ensures.value) c.if-not-may_end.true

pub returns-then-not-is_plain : goal.returns-then-not-is_plain
returns-then-not-is_plain c =
    let engine = c.args.engine in
    let text = c.args.text.now in
    let start = c.args.start in
    let end = c.args.end in
    told_rough engine.rules engine.database.now engine.hint c.args.leniency (take start text) (slice_range text start end) (drop end text)
    c.is_plain.result (c.is_plain.ensures ∙ ap (λ t. is_plain (chars t)) c.range-2.ensures.value) c.if-not-is_plain.true

pub returns-in-Some : goal.returns-in-Some
returns-in-Some c =
    let engine = c.args.engine in
    let text = c.args.text.now in
    let start = c.args.start in
    let end = c.args.end in
    let by = engine.rules in
    let db = engine.database.now in
    let hint = engine.hint in
    let l = c.args.leniency in
    let n = c.in-Some.number in
    let read = subst (λ t. IsReadWell by db hint l t n) c.range-3.ensures.value
    (subst (λ o. Told by db hint l c.range-3.result.now o) c.in-Some.is c.in_ok-number.ensures) in
    told_read by db hint l (take start text) (slice_range text start end) (drop end text) n read c.where_candidate.result c.where_candidate.ensures
