use Rattle.std.proofs.Common.{◌≡◌, ◌++◌, ◌≤◌, IsUtf8, drop, take, length, arith, ap, sym, subst, ◌∙◌}
use Rattle.std.proofs.Math.Seq.{take-append_seam}
use Rattle.std.proofs.lemmas.List.{length-append}
use Rattle.std.proofs.lemmas.Str.{IsCharBoundary-from_take}
use Rattle.phone_parts.proofs.Prefixes.{is_front-drop}
use Rattle.phone_typed.proofs.stripping.past_front.Goals as goal

pub range_from-requires : goal.range_from-requires
range_from-requires c _ =
    let front = c.args.front.now in
    let keys = c.args.keys.now in
    let rest = drop (length front) keys in
    let whole : keys ≡ front ++ rest = is_front-drop front keys (sym c.has_front.ensures ∙ c.if-has_front.true) in
    let begun : take (length front) keys ≡ front = ap (take (length front)) whole ∙ take-append_seam front rest in
    let long : length keys ≡ length (front ++ rest) = ap length whole in
    let parts = length-append front rest in
    let fits : length front ≤ length keys = omega (arith, long, parts) in
    IsCharBoundary-from_take keys (length front) c.utf8.keys fits (subst IsUtf8 (sym begun) c.utf8.front)
