use Rattle.std.proofs.Common.{◌≡◌, ⊎_elim, length, codes, refl, sym, ap, ◌∙◌, arith}
use Rattle.std.proofs.lemmas.Option.{none-some, same_Some}
use Rattle.std.specs.Fmt.{digits}
use Rattle.phone_values.specs.Ids.{id_of, name}
use Rattle.phone_read.specs.Strips.{strip}
use Rattle.phonenumber.specs.Plain.{IsLeftAlone}
use Rattle.headline_examples.proofs.ByText.{is_plain}
use Rattle.headline_examples.specs.Samples.{db_b, nz}
use Rattle.headline_examples.proofs.needed.prefix_stripped.Goals as goal

not_idle : ¬ (IsLeftAlone db_b 64 (codes "033316005"))
unfolding id_of name
not_idle =
    ⊎_elim (λ e. none-some nz (sym e)) (λ h.
    let left = ap (λ m. length (strip m (codes "033316005")).national) (same_Some nz h.0 h.1) in
    let eight : 8 ≡ 9 = left ∙ ap length h.2 in omega (arith, eight))

pub returns : goal.returns
unfolding digits
returns c = record { plain = (nz, is_plain refl refl); not_idle = not_idle }
