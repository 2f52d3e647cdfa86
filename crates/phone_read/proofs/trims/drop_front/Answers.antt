use Rattle.std.proofs.Common.{◌≡◌, ◌+◌, ◌-◌, ℕ, List, drop, take, length, string_bytes, ap, arith, ◌∙◌, length-drop}
use lib.Seq.{paste}
use Rattle.std.proofs.lemmas.Grind.{common_steps}
use Rattle.std.proofs.lemmas.List.{take_rest}
use Rattle.std.proofs.lemmas.List.Edits.{take-paste}
use Rattle.std.proofs.lemmas.Str.{IsUtf8-drop, IsUtf8-string_bytes}
use Rattle.phone_read.proofs.trims.drop_front.Goals as goal

-- what is left of a list whose end is copied to its front, and which is cut behind that
drop_by_copy : (n : ℕ) (xs : List ℕ) → take (length xs - n) (paste xs 0 (drop n xs) (length xs - n)) ≡ drop n xs
drop_by_copy n xs =
    let left = length xs - n in
    let rest : length (drop n xs) ≡ left = length-drop n xs in
    let same : left ≡ 0 + left = omega arith in
    ap (λ k. take k (paste xs 0 (drop n xs) left)) same
    ∙ take-paste xs 0 (drop n xs) left (omega arith) (omega (arith, rest))
    ∙ take_rest xs n

pub from_utf8_unchecked-requires : goal.from_utf8_unchecked-requires
from_utf8_unchecked-requires c =
    let copied = drop_by_copy c.args.at (string_bytes c.args.text) in
    let e : c.truncate.new.self.items ≡ drop c.args.at (string_bytes c.args.text) =
    grind (arith, common_steps, copied) in
    rw e (IsUtf8-drop _ c.args.at (IsUtf8-string_bytes c.args.text) c.requires)

pub returns : goal.returns
returns c =
    let copied = drop_by_copy c.args.at (string_bytes c.args.text) in
    grind (arith, common_steps, copied)
