use Rattle.std.proofs.Common.{rules, ◌≡◌, chars, encode_utf8, length, ap, sym, subst, ◌∙◌, arith}
use Rattle.std.proofs.lemmas.Str.{chars-nil}
use Rattle.phone_chars.specs.Cuts.{front}
use Rattle.phone_find.specs.Sets.{is_inner}
use Rattle.phone_find.specs.Shapes.{is_nil}
use Rattle.phone_matches_text.proofs.Ends.{end_of_end}
use Rattle.phone_find.proofs.Few.{IsBehindFew, few_bound, few_digit, few_ends, few_no_more}
use Rattle.phone_find.proofs.Few.{few_plain, no_front}
use Rattle.phone_find.proofs.standing.from_too_many.Goals as goal

pub returns-then-not-has-clause-few : goal.returns-then-not-has-clause-few
returns-then-not-has-clause-few c =
    let none = ap (front is_inner) c.in-Some.ensures.read ∙ no_front _ _ (sym c.has.ensures ∙ c.if-not-has.true) in
    ap is_nil chars-nil ∙ few_ends _ _ _ none c.loop-c.invariant.2

pub returns-then-not-has-clause-bound : goal.returns-then-not-has-clause-bound
returns-then-not-has-clause-bound c piece after whole few = omega (arith, ap length chars-nil)

pub returns-then-left-eq0-clause-few : goal.returns-then-left-eq0-clause-few
returns-then-left-eq0-clause-few c =
    let text = chars c.args.text.now in
    let rest = chars c.loop-c.rest.now in
    few_no_more text rest (chars c.in-Some.after.now) c.in-Some.c c.in-Some.ensures.read (sym c.has.ensures ∙ c.if-not-has.false)
    (sym c.is_nd.ensures ∙ c.if-is_nd.true) (subst (λ n. IsBehindFew text rest n) c.if-left-eq0.true c.loop-c.invariant.2)

pub returns-then-left-eq0-clause-bound : goal.returns-then-left-eq0-clause-bound
returns-then-left-eq0-clause-bound c =
    let text = chars c.args.text.now in
    let rest = chars c.loop-c.rest.now in
    few_bound text rest (chars c.in-Some.after.now) c.in-Some.c c.in-Some.ensures.read (sym c.has.ensures ∙ c.if-not-has.false)
    (sym c.is_nd.ensures ∙ c.if-is_nd.true) (subst (λ n. IsBehindFew text rest n) c.if-left-eq0.true c.loop-c.invariant.2)

pub loop-c-preserved-else-left-eq0 : goal.loop-c-preserved-else-left-eq0
loop-c-preserved-else-left-eq0 c = (
  search rules,
  end_of_end _ _ _ c.loop-c.invariant.1 (encode_utf8 c.in-Some.c, c.in-Some.ensures.cut),
  few_digit _ _ _ _ _ c.in-Some.ensures.read (sym c.has.ensures ∙ c.if-not-has.false) (sym c.is_nd.ensures ∙ c.if-is_nd.true) c.if-left-eq0.false
      c.loop-c.invariant.2,
)

pub loop-c-preserved : goal.loop-c-preserved
loop-c-preserved c = (
  search rules,
  end_of_end _ _ _ c.loop-c.invariant.1 (encode_utf8 c.in-Some.c, c.in-Some.ensures.cut),
  few_plain _ _ _ _ _ c.in-Some.ensures.read (sym c.has.ensures ∙ c.if-not-has.false) (sym c.is_nd.ensures ∙ c.if-is_nd.false) c.loop-c.invariant.2,
)

pub returns-clause-few : goal.returns-clause-few
returns-clause-few c =
    let none = ap (λ t. front is_inner (chars t)) c.in_default.ensures.cut ∙ ap (front is_inner) chars-nil in
    ap is_nil chars-nil ∙ few_ends _ _ _ none c.loop-c.invariant.2

pub returns-clause-bound : goal.returns-clause-bound
returns-clause-bound c piece after whole few = omega (arith, ap length chars-nil)
