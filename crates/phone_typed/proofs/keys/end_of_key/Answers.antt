use Rattle.std.proofs.Common.{◌≡◌, ◌<◌, length, get_or, refl, ap, sym, ◌∙◌, arith, true≢false}
use Rattle.std.proofs.lemmas.Str.{IsCharBoundary-start}
use Rattle.phone_typed.specs.Keys.{is_key}
use Rattle.phone_typed.proofs.KeyPlaces.{cut_after_key, walked}
use Rattle.phone_typed.proofs.keys.end_of_key.Goals as goal
use Rattle.phone_typed.proofs.keys.end_of_key.Goals.{then-is_key, else-is_key}

pub loop-at-init : goal.loop-at-init
loop-at-init c = (refl, λ none. IsCharBoundary-start c.args.text.now c.utf8.text)

pub loop-at-preserved : goal.loop-at-preserved
loop-at-preserved c =
    let text = c.args.text.now in
    let at = c.loop-at.at in
    let less : at < length text = omega (arith, c.loop-at-test.true) in
    let same : is_key (get_or text at 0) ≡ c.is_key.result = ap (λ t. is_key (get_or t at 0)) (sym c.as_bytes-bytes.ensures.value) ∙ sym c.is_key.ensures in
    let some : ¬ (c.loop-at.left ≡ 0) = λ e. omega (arith, e, c.if-left-eq0.false) in
    elim c.if-is_key.branch [
      | then-is_key w ↦ (let key = same ∙ w.if-is_key.true in (
        walked text at less c.args.n c.loop-at.left c.if-is_key.left some (λ k. w.left-is) (λ o. absurd (true≢false (sym key ∙ o))) c.loop-at.invariant.0,
        λ none. cut_after_key text at less c.utf8.text key,
      ))
      | else-is_key w ↦ (let other = same ∙ w.if-is_key.false in (
        walked text at less c.args.n c.loop-at.left c.if-is_key.left some (λ k. absurd (true≢false (sym k ∙ other))) (λ o. w.left-is) c.loop-at.invariant.0,
        λ none. absurd (some (sym w.left-is ∙ none)),
      ))
    ]
