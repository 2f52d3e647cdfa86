use Rattle.std.proofs.Common.{◌≡◌, inl, inr, ⊎_elim, Ok, ap, ◌∙◌}
use Rattle.std.specs.Option.{option_copied}
use Rattle.std.specs.Result.{result_map_both}
use Rattle.phone_library.specs.LibraryCodes.{code_in}
use Rattle.phone_library.specs.Lent.{read_as, told}
use Rattle.phone_library.specs.Readings.{after_code_if_any}
use Rattle.phone_library.proofs.reading.main_number.Goals as goal

pub returns : goal.returns
returns c =
    let db = c.args.db.now in
    let m = option_copied c.args.territory in
    let found : Ok (told c.in_ok-coded.coded) ≡ code_in db m c.args.has_plus c.args.digits.now =
    ⊎_elim (λ f. cc) (λ f. f) c.in_ok-coded.ensures in
    ⊎_elim (λ f. inl (c.in_place_of.ensures ∙ f))
    (λ h. inr (λ extension.
    ap (result_map_both (read_as extension) (λ e. e)) c.in_place_of.ensures ∙ h extension ∙ ap (after_code_if_any db m extension) found))
    c.after_code-numbered.ensures
