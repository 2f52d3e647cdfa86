use Rattle.std.proofs.Common.{◌≡◌, ◌∷◌, ◌∙◌, ap, arith, le-leb, nat_le, true, sym}
use Rattle.phone_plain.proofs.Classing.{range_member, lone_member}
use Rattle.phone_plain.proofs.class.member.Goals as goal

pub returns : goal.returns
returns c =
    let lo = c.in_ok-low in
    let hi = c.in_ok-high in
    let text : c.args.text.now ≡ lo.low ∷ 45 ∷ hi.high ∷ hi.end.now =
    lo.ensures.is ∙ ap (λ t. lo.low ∷ t) (c.in_ok-upper.ensures ∙ ap (λ t. 45 ∷ t) hi.ensures.is) in
    let le : nat_le lo.low hi.high ≡ true = le-leb lo.low hi.high (omega (arith, c.if-high-low.false)) in
    range_member c.args.text.now lo.low hi.high hi.end.now text lo.ensures.low lo.ensures.high hi.ensures.low hi.ensures.high le

pub returns-then-is_lone : goal.returns-then-is_lone
returns-then-is_lone c =
    let lo = c.in_ok-low in
    lone_member c.args.text.now lo.after.now lo.low lo.ensures.is lo.ensures.low lo.ensures.high (sym c.is_lone.ensures ∙ c.if-is_lone.true)
