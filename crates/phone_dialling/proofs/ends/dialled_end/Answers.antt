use Rattle.std.proofs.Common.{◌≡◌, ℕ, List, Some, chars, encode_utf8_all, rules, ap, sym, ◌∙◌}
use Rattle.std.proofs.lemmas.Str.{chars-nil, encodes-chars}
use Rattle.phone_dialling.specs.Keys.{dialled_end}
use Rattle.phone_dialling.proofs.Steps.{here_so}
use Rattle.phone_dialling.proofs.ends.dialled_end.Goals as goal

pub returns-then-is_dialled_by : goal.returns-then-is_dialled_by
returns-then-is_dialled_by c =
    let rest = c.loop-after.rest.now in
    let digits = c.args.digits.now in
    let whole : encode_utf8_all (chars rest) ≡ rest = search (rules, encodes-chars) in
    sym (c.loop-after.invariant.1
    ∙ here_so digits (chars rest) c.in-Some.field-0-0 (chars c.in-Some.after.now) c.in-Some.ensures.read (sym c.is_dialled_by.ensures ∙ c.if-is_dialled_by.true)
    ∙ ap Some whole)

pub returns : goal.returns
returns c =
    let digits = c.args.digits.now in
    sym (c.loop-after.invariant.1 ∙ ap (λ (t : List ℕ). dialled_end digits (chars t)) c.in_default.ensures.cut ∙ ap (dialled_end digits) chars-nil)
