use Rattle.std.proofs.Common.{rules, ◌≡◌, if◌then◌else◌, List, ℕ, length, Option, None, option_map, ap, ap₂, ◌∙◌}
use Rattle.std.specs.Cow.{cow_str_bytes}
use Rattle.phone_records.specs.declared.loader.Metadata.{Metadata}
use Rattle.phone_parts.specs.Texts.{without_front}
use Rattle.phone_read.specs.Verdicts.{is_too_short, verdict}
use Rattle.phone_read.specs.Strips.{Stripped, step}
use Rattle.phone_read.proofs.stripping.strip.Goals as goal

-- what stripping leaves, by what the step left
abbrev once_more : Metadata → List ℕ → List ℕ → Option (List ℕ) → Stripped
once_more m digits left carrier =
    let national = without_front m.national_prefix left in
    if is_too_short (verdict m (length national)) then record { national = digits; carrier = None } else record { national = national; carrier = carrier }

pub returns-clause-national : goal.returns-clause-national
returns-clause-national c =
    let m = c.args.m.now in
    let digits = c.args.digits.now in
    let stepped = c.in_ok-stepped.stepped in
    let here : cow_str_bytes c.match-length_of.result.national ≡ (once_more m digits (cow_str_bytes stepped.national) (option_map cow_str_bytes stepped.carrier)).national =
    search rules in
    let was = ap (option_map cow_str_bytes) c.of.ensures.no_carrier in
    here
    ∙ ap₂ (λ n r. (once_more m digits n r).national)
    (c.in_ok-stepped.ensures.national ∙ ap₂ (λ n r. (step m n r).national) c.of.ensures.national was)
    (c.in_ok-stepped.ensures.carrier ∙ ap₂ (λ n r. (step m n r).carrier) c.of.ensures.national was)

pub returns-clause-carrier : goal.returns-clause-carrier
returns-clause-carrier c =
    let m = c.args.m.now in
    let digits = c.args.digits.now in
    let stepped = c.in_ok-stepped.stepped in
    let here : option_map cow_str_bytes c.match-length_of.result.carrier ≡
    (once_more m digits (cow_str_bytes stepped.national) (option_map cow_str_bytes stepped.carrier)).carrier = search rules in
    let was = ap (option_map cow_str_bytes) c.of.ensures.no_carrier in
    here
    ∙ ap₂ (λ n r. (once_more m digits n r).carrier)
    (c.in_ok-stepped.ensures.national ∙ ap₂ (λ n r. (step m n r).national) c.of.ensures.national was)
    (c.in_ok-stepped.ensures.carrier ∙ ap₂ (λ n r. (step m n r).carrier) c.of.ensures.national was)
