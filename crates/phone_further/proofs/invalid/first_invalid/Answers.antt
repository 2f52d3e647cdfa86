use Rattle.std.proofs.Common.{None, chars, rules, ap, sym, ◌∙◌}
use Rattle.std.proofs.lemmas.Str.{chars-nil}
use Rattle.phone_further.proofs.Tried.{empty_so, found_so, short_so, shorter_so}
use Rattle.phone_further.proofs.invalid.first_invalid.Goals as goal

pub loop-front-init : goal.loop-front-init
loop-front-init c = (search rules, λ region is found h. h)

pub returns-then-is_short : goal.returns-then-is_short
returns-then-is_short c region is =
    c.loop-front.invariant.1 region is None
    (short_so c.args.database.now region (chars c.loop-front.rest.now) (chars c.in-Some.front.now) c.in-Some.field-0-1 c.in-Some.ensures.read
    (sym c.is_short.ensures ∙ c.if-is_short.true))

pub returns-then-is_some : goal.returns-then-is_some
returns-then-is_some c region is =
    c.loop-front.invariant.1 region is c.in_ok-found.found
    (found_so c.args.database.now region (chars c.loop-front.rest.now) (chars c.in-Some.front.now) c.in-Some.field-0-1 c.in-Some.ensures.read
    c.in_ok-found.found (search rules) (sym c.is_short.ensures ∙ c.if-is_short.false) (c.in_ok-found.ensures region is))

pub loop-front-preserved : goal.loop-front-preserved
loop-front-preserved c = (
  search rules,
  λ region is found h. c.loop-front.invariant.1 region is found
      (shorter_so c.args.database.now region (chars c.loop-front.rest.now) (chars c.in-Some.front.now) c.in-Some.field-0-1
      c.in-Some.ensures.read c.in_ok-found.found (search rules) (sym c.is_short.ensures ∙ c.if-is_short.false) (c.in_ok-found.ensures region is) found h),
)

pub returns : goal.returns
returns c region is =
    c.loop-front.invariant.1 region is None
    (empty_so c.args.database.now region (chars c.loop-front.rest.now) (ap chars c.in_default.ensures.cut ∙ chars-nil))
