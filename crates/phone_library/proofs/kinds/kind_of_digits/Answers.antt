use Rattle.std.proofs.Common.{◌≡◌, Some, None, true, IfOk, rules, sym, subst, ap, ◌∙◌}
use Rattle.std.specs.List.{find}
use Rattle.phone_territory.specs.Kinds.{Kinds, descriptor_for}
use Rattle.phone_read.specs.declared.kinds.TheConstants.{TRIED}
use Rattle.phone_library.specs.Kinds.{is_number_of}
use Rattle.phone_library.proofs.TriedKinds.{is_of_kind, kind_in-found, kind_in-none}
use Rattle.phone_library.proofs.kinds.kind_of_digits.Goals as goal

pub returns-in-Some : goal.returns-in-Some
returns-in-Some c =
    let m = c.args.m.now in
    let digits = c.args.digits.now in
    let general : is_number_of m.general digits ≡ true = search rules in
    let found : Some c.in-Some.kind ≡ find (is_of_kind m digits) TRIED =
    sym c.in-Some.is ∙ c.in_ok-kind.ensures ∙ ap (λ (ks : Kinds). find (λ k. is_number_of (descriptor_for k ks) digits) TRIED) c.descriptors-kinds.ensures in
    subst (λ t. IfOk c.line_or_mobile.result (λ k. k ≡ t)) (sym (kind_in-found m digits general c.in-Some.kind found)) c.line_or_mobile.ensures

pub returns-in-None : goal.returns-in-None
returns-in-None c =
    let m = c.args.m.now in
    let digits = c.args.digits.now in
    let general : is_number_of m.general digits ≡ true = search rules in
    let none : None ≡ find (is_of_kind m digits) TRIED =
    sym c.in-None.is ∙ c.in_ok-kind.ensures ∙ ap (λ (ks : Kinds). find (λ k. is_number_of (descriptor_for k ks) digits) TRIED) c.descriptors-kinds.ensures in
    sym (kind_in-none m digits general none)
