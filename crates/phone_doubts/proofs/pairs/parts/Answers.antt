use Rattle.std.proofs.Common.{rules, ◌∷◌, [], ◌++◌, chars, encode_utf8, append_assoc, ap, sym, ◌∙◌}
use Rattle.std.proofs.lemmas.Str.{chars-nil}
use Rattle.phone_doubts.proofs.Parting.{found_in, none_at_all, none_found, none_further}
use Rattle.phone_doubts.proofs.pairs.parts.Goals as goal

pub returns-then-is_some : goal.returns-then-is_some
returns-then-is_some c =
    let engine = c.args.engine in
    let i = c.loop-next.invariant.2 in
    found_in engine.rules engine.database.now engine.hint (chars c.args.field.now) i.0 (chars c.loop-next.rest.now) i.1 i.2
    c.in_ok-found.found (search rules) c.in_ok-found.ensures

pub loop-next-preserved : goal.loop-next-preserved
loop-next-preserved c =
    let engine = c.args.engine in
    let v = c.loop-next.invariant.1 in
    let i = c.loop-next.invariant.2 in
    let x = c.in-Some.field-0-0 in
    let next = chars c.in-Some.next.now in
    let field = chars c.args.field.now in
    let whole = i.1 ∙ ap (λ t. i.0 ++ t) c.in-Some.ensures.read in
    let none = none_found engine.rules engine.database.now engine.hint field i.0 (chars c.loop-next.rest.now) i.1 c.in_ok-found.found (search rules)
    c.in_ok-found.ensures in (
      search rules,
      (v.0 ++ encode_utf8 x, v.1 ∙ ap (λ t. v.0 ++ t) c.in-Some.ensures.cut ∙ sym (append_assoc v.0 (encode_utf8 x) c.in-Some.next.now)),
      (
        i.0 ++ x ∷ [],
        whole ∙ sym (append_assoc i.0 (x ∷ []) next),
        none_further engine.rules engine.database.now engine.hint field i.0 x next whole i.2 (rw c.in-Some.ensures.read at none),
      ),
    )

pub returns : goal.returns
returns c =
    let engine = c.args.engine in
    let i = c.loop-next.invariant.2 in
    none_at_all engine.rules engine.database.now engine.hint (chars c.args.field.now) i.0
    (i.1 ∙ ap (λ t. i.0 ++ chars t) c.in_default.ensures.cut ∙ ap (λ t. i.0 ++ t) chars-nil) i.2
