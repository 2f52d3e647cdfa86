use Rattle.std.proofs.Common.{◌≤◌, ℕ, List, length, take, string_bytes, IsUtf8, sym, refl, ap, subst, ◌∙◌}
use Rattle.std.proofs.Common.{arith, length-append, take_at}
use Rattle.std.proofs.lemmas.Str.{IsCharBoundary-from_take, IsUtf8-string_bytes}
use Rattle.std.specs.String.Boundary.{IsSplitPoint}
use Rattle.phone_print.specs.Behind.{IsBehind}
use Rattle.phone_print.proofs.printing.push_texts.Goals as goal

-- a text may be cut where the text ends that it stands behind
split-IsBehind : (before after : List ℕ) → IsUtf8 before → IsUtf8 after → IsBehind before after → IsSplitPoint after (length before)
split-IsBehind before after u v behind =
    let le : length before ≤ length after = omega (arith, ap length behind.1, length-append before behind.0) in
    let cut = IsCharBoundary-from_take after (length before) v le
    (subst IsUtf8 (sym (ap (take (length before)) behind.1 ∙ take_at before behind.0 (length before) refl)) u) in
    (cut.0, λ _ l a. cut.1 l a)

pub truncate-requires : goal.truncate-requires
truncate-requires c = λ _.
    subst (IsSplitPoint (string_bytes c.push_some.new.line)) (sym c.args.line.now.bytes.ok.0 ∙ sym c.len-len.ensures)
    (split-IsBehind _ _ (IsUtf8-string_bytes c.args.line.now) (IsUtf8-string_bytes c.push_some.new.line) c.in-Err.ensures.behind)
