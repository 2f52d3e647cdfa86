use Rattle.std.proofs.Common.{◌≡◌, ℕ, Some, None, string_bytes, rules, ap, sym, ◌∙◌}
use Rattle.std.specs.Option.{option_copied}
use Rattle.phone_plans.specs.CodeLookUps.{first_of, territories}
use Rattle.phone_dialling.proofs.Answered.{told_so}
use Rattle.phone_read.proofs.Results.{ok_again}
use Rattle.phone_dialling.specs.Lettered
use Rattle.phone_dialling.specs.Lettered.{IsLettered}
use Rattle.phone_dialling.proofs.lettered.lettered.Goals as goal

pub returns-in-Some : goal.returns-in-Some
returns-in-Some c =
    let db = c.args.database.now in
    let n = c.args.number.now in
    let first = c.in-Some.first.now in
    let same : c.value.result ≡ n.code.value = search rules in
    let found : first_of (territories n.code.value db) ≡ Some first =
    ap (λ (k : ℕ). first_of (territories k db)) (sym same) ∙ sym c.first_by_code.ensures ∙ ap option_copied c.in-Some.is in
    ok_again c.kept_in.result _ _ (λ t h. Lettered.kept c.args.raw.now (string_bytes t) first found h) c.kept_in.ensures

pub returns-in-None : goal.returns-in-None
returns-in-None c =
    let db = c.args.database.now in
    let n = c.args.number.now in
    let same : c.value.result ≡ n.code.value = search rules in
    let first : first_of (territories n.code.value db) ≡ None =
    ap (λ (k : ℕ). first_of (territories k db)) (sym same) ∙ sym c.first_by_code.ensures ∙ ap option_copied c.in-None.is in
    told_so string_bytes (IsLettered db c.args.from n (Some c.args.raw.now)) c.args.raw.now c.from_str.result
    (Lettered.unlisted c.args.raw.now first) c.from_str.ensures.ok
