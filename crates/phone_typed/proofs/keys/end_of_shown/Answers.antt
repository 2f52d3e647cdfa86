use Rattle.std.proofs.Common.{◌≡◌, ℕ, ◌<◌, length, get_or, take, Option, None, Some, option_map, rules, arith, ap, ap₂, sym, ◌∙◌}
use Rattle.phone_typed.specs.Keys.{passed}
use Rattle.phone_typed.proofs.ShownFronts.{keys_left, passed-nothing, passed_on, stopped}
use Rattle.phone_typed.proofs.keys.end_of_shown.Goals as goal

pub loop-at-init : goal.loop-at-init
loop-at-init c = passed-nothing c.args.keys.now c.args.text.now c.utf8.text

pub loop-at-preserved : goal.loop-at-preserved
loop-at-preserved c =
    let keys = c.args.keys.now in
    let text = c.args.text.now in
    let some : c.loop-at.n < length keys = omega (arith, c.if-n-wanted.false, c.loop-at.invariant.2) in
    let less : c.loop-at.at < length text = omega (arith, c.loop-at-test.true) in
    let next : passed keys c.loop-at.n (get_or text c.loop-at.at 0) ≡ Some c.in_ok-n.n =
    ap₂ (λ ks t. passed ks c.loop-at.n (get_or t c.loop-at.at 0)) (sym c.as_bytes-wanted.ensures.value) (sym c.as_bytes-bytes.ensures.value)
    ∙ sym c.passed.ensures ∙ c.in_ok-n.was in
    passed_on keys text c.loop-at.n c.loop-at.at some less c.loop-at.invariant c.utf8.text c.in_ok-n.n next

pub returns-in_err-n-clause-shown : goal.returns-in_err-n-clause-shown
returns-in_err-n-clause-shown c =
    let keys = c.args.keys.now in
    let text = c.args.text.now in
    let some : c.loop-at.n < length keys = omega (arith, c.if-n-wanted.false, c.loop-at.invariant.2) in
    let less : c.loop-at.at < length text = omega (arith, c.loop-at-test.true) in
    let none : passed keys c.loop-at.n (get_or text c.loop-at.at 0) ≡ None =
    ap₂ (λ ks t. passed ks c.loop-at.n (get_or t c.loop-at.at 0)) (sym c.as_bytes-wanted.ensures.value) (sym c.as_bytes-bytes.ensures.value)
    ∙ sym c.passed.ensures ∙ c.in_err-n.was in
    let answer : c.from_residual.result ≡ None = search rules in
    ap (λ (o : Option ℕ). option_map (λ end. take end text) o) answer ∙ stopped keys text c.loop-at.n c.loop-at.at some less c.loop-at.invariant none

pub returns-else-n-wanted-2-clause-shown : goal.returns-else-n-wanted-2-clause-shown
returns-else-n-wanted-2-clause-shown c =
    let some : c.loop-at.n < length c.args.keys.now = omega (arith, c.if-n-wanted-2.false, c.loop-at.invariant.2) in
    let end : c.loop-at.at ≡ length c.args.text.now = omega (arith, c.loop-at-test.false, c.loop-at.auto.at-end) in
    keys_left c.args.keys.now c.args.text.now c.loop-at.n c.loop-at.at some end c.loop-at.invariant
