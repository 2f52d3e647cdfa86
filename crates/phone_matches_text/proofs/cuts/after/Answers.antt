use Rattle.std.proofs.Common.{◌≡◌, ℕ, ◌-◌, Bor, Option, Some, None, List, ◌++◌, IsUtf8, length, length-append, drop, take, ap, subst, ◌∙◌, arith}
use Rattle.std.proofs.lemmas.List.{take_all}
use Rattle.std.proofs.lemmas.Str.{IsCharBoundary-at_seam, IsCharBoundary-end}
use Rattle.std.proofs.Math.Seq.{drop-append_seam}
use Rattle.std.specs.Option.{unwrap_or}
use Rattle.std.specs.Str.Pattern.{GetsRange}
use Rattle.phone_chars.proofs.Runs.{IsUtf8-after}
use Rattle.phone_matches_text.proofs.cuts.after.Goals as goal

-- the slice of a text from where a front of it ends is what follows that front
end_of_front : (text : Bor (List ℕ)) (front w : List ℕ) → text.now ≡ front ++ w → IsUtf8 text.now → IsUtf8 front →
    (o : Option (Bor (List ℕ))) → GetsRange text.now (length front) (length text.now) o → (unwrap_or o text).now ≡ w
end_of_front text front w whole u v None h =
    absurd (h (omega (arith, ap length whole, length-append front w)) (IsCharBoundary-at_seam text.now front w whole (IsUtf8-after front w (subst IsUtf8 whole u) v)) (IsCharBoundary-end text.now))
end_of_front text front w whole u v (Some x) h =
    h.0 ∙ ap (take (length text.now - length front)) (ap (drop (length front)) whole ∙ drop-append_seam front w)
    ∙ take_all (length text.now - length front) w (omega (arith, ap length whole, length-append front w))

pub returns : goal.returns
returns c w whole =
    ap (λ (r : Bor (List ℕ)). r.now) c.unwrap_or.ensures ∙ end_of_front c.args.text c.args.front.now w whole c.utf8.text c.utf8.front c.get.result c.get.ensures.cases
