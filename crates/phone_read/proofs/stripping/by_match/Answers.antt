use Rattle.std.proofs.Common.{◌≡◌, ℕ, List, Option, Some, ap, sym, ◌∙◌}
use Rattle.std.specs.Cow.{cow_str_bytes}
use Rattle.std.specs.Option.{option_copied}
use Rattle.phone_read.specs.Strips.{Cut, by_match}
use Rattle.phone_read.proofs.Results.{ok_again}
use Rattle.phone_read.proofs.stripping.by_match.Goals as goal

pub returns-in-Some-Some-clause-cut : goal.returns-in-Some-Some-clause-cut
returns-in-Some-Some-clause-cut c =
    let m = c.args.m.now in
    let last = c.in-Some-Some.field-0-1 in
    let cut : Option (List ℕ) → Option (ℕ × ℕ) → Cut = λ rule group. by_match m c.args.pattern.now rule (cow_str_bytes c.args.digits.now) c.args.found group in
    let told : cut (Some c.in-Some-Some.rule.now) (Some last) ≡ cut m.national_prefix_transform_rule c.args.found.last =
    ap (λ rule. cut rule (Some last)) (ap option_copied (sym c.in-Some-Some.is-0) ∙ c.national_prefix_transform_rule.ensures)
    ∙ ap (cut m.national_prefix_transform_rule) (sym c.in-Some-Some.is-1) in
    ok_again c.by_rule.result _ _ (λ made h. h ∙ told) (c.by_rule.ensures.cut last)
