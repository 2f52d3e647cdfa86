use Rattle.std.proofs.Common.{◌≡◌, ◌∙◌, ◌∷◌, ◌+◌, arith, ap, subst}
use Rattle.phone_compact.proofs.Numbers.{AddsTo, IsLeft, adds_more, left_more}
use Rattle.phone_compact.proofs.reader.Reader.number.Goals as goal

pub loop-byte-preserved : goal.loop-byte-preserved
loop-byte-preserved c =
    let whole = c.args.self.now in
    let now = c.loop-byte.self in
    let after = c.byte.new.self in
    let k = c.loop-byte.number in
    let full : c.in_ok-byte.byte ≡ 255 = omega arith in
    let added : 255 ≡ c.from-number.result = omega arith in
    let is : now ≡ 255 ∷ after = c.in_ok-byte.ensures.byte ∙ ap (λ b. b ∷ after) full in
    record {
      small = omega arith;
      adds = subst (λ n. AddsTo whole (k + n) after) added (adds_more whole now after k is c.loop-byte.invariant.adds);
      left = subst (λ n. IsLeft whole (k + n) after) added (left_more whole now after k is c.loop-byte.invariant.left);
    }
