use Rattle.std.proofs.Common.{◌≡◌, OnOk, subst}
use Rattle.phone_typed.specs.KeyedFields.{Field}
use Rattle.phone_typed.specs.Steps.{shown_anew}
use Rattle.phone_typed.proofs.field.Keyed.change.Goals as goal

pub returns : goal.returns
returns c =
    let IsSo = λ (s : Field). OnOk c.show_anew.result (c.show_anew.new.self ≡ shown_anew s) in
    subst IsSo c.in_ok-put_down.ensures c.show_anew.ensures
