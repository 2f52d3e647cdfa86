use Rattle.std.proofs.Common.{◌≡◌, ◌++◌, ℕ, ◌≤◌, IfOk, IsUtf8, append-nil, drop, length, map, option_map, string_bytes, refl, arith, ap, sym, subst, ◌∙◌}
use Rattle.std.proofs.Math.ListN.{drop_of_length-le}
use Rattle.std.proofs.lemmas.Str.{IsCharBoundary-from_ascii, IsUtf8-append, IsUtf8-drop, IsUtf8-from_ascii}
use Rattle.phone_print.specs.Layouts.{layouts_for}
use Rattle.phone_records.specs.Missing.{first_given}
use Rattle.phone_typed.specs.Typed.{nines, partial_text, with_nines}
use Rattle.phone_typed.proofs.KeysOfTexts.{IsAscii-keys}
use Rattle.phone_typed.proofs.layouts.first_partial.Goals as goal

pub returns-then-n-ge15 : goal.returns-then-n-ge15
returns-then-n-ge15 c =
    let national = c.args.national.now in
    let whole : national ≡ with_nines national =
    sym (ap (λ t. national ++ t) (drop_of_length-le nines c.if-n-ge15.true) ∙ append-nil national) in
    subst (λ d. IfOk c.first_of_nines.result (λ t. option_map string_bytes t ≡ first_given (map (partial_text c.args.m.now c.args.mode (length national) d c.args.keys.now) (layouts_for c.args.m.now c.args.mode))))
    whole c.first_of_nines.ensures

pub returns : goal.returns
returns c =
    let national = c.args.national.now in
    let same : c.as_text.result.now ≡ with_nines national = c.as_text.ensures ∙ c.put_in_front.ensures in
    subst (λ d. IfOk c.first_of_nines-2.result (λ t. option_map string_bytes t ≡ first_given (map (partial_text c.args.m.now c.args.mode (length national) d c.args.keys.now) (layouts_for c.args.m.now c.args.mode))))
    same c.first_of_nines-2.ensures

nines_left : (n : ℕ) → n ≤ 15 → IsUtf8 (drop n nines)
nines_left n le =
    let ascii = IsAscii-keys nines refl in
    IsUtf8-drop nines n (IsUtf8-from_ascii nines ascii) (IsCharBoundary-from_ascii nines n ascii le)

pub as_text-requires : goal.as_text-requires
as_text-requires c =
    let national = c.args.national.now in
    let few : length national ≤ 15 = omega (arith, c.if-n-ge15.false) in
    subst IsUtf8 (sym c.put_in_front.ensures) (IsUtf8-append national (drop (length national) nines) c.utf8.national (nines_left (length national) few))
