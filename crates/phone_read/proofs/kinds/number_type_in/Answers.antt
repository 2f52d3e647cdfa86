use Rattle.std.proofs.Common.{◌≡◌, Some, None, true, IfOk, rules, sym, subst, ap, ◌∙◌}
use Rattle.std.specs.List.{find}
use Rattle.phone_territory.specs.Kinds.{Kinds, descriptor_for}
use Rattle.phone_read.specs.declared.kinds.TheConstants.{TRIED}
use Rattle.phone_read.specs.Kinds.{is_of}
use Rattle.phone_read.proofs.TriedKinds.{is_of_kind, type_of-found, type_of-none}
use Rattle.phone_read.proofs.kinds.number_type_in.Goals as goal

pub returns-in-Some : goal.returns-in-Some
returns-in-Some c =
    let m = c.args.m.now in
    let text = c.args.text.now in
    let general : is_of m.general text ≡ true = search rules in
    let found : Some c.in-Some.kind ≡ find (is_of_kind m text) TRIED =
    sym c.in-Some.is ∙ c.in_ok-kind.ensures ∙ ap (λ (ks : Kinds). find (λ k. is_of (descriptor_for k ks) text) TRIED) c.descriptors-kinds.ensures in
    subst (λ t. IfOk c.line_or_mobile.result (λ k. k ≡ t)) (sym (type_of-found m text general c.in-Some.kind found)) c.line_or_mobile.ensures

pub returns-in-None : goal.returns-in-None
returns-in-None c =
    let m = c.args.m.now in
    let text = c.args.text.now in
    let general : is_of m.general text ≡ true = search rules in
    let none : None ≡ find (is_of_kind m text) TRIED =
    sym c.in-None.is ∙ c.in_ok-kind.ensures ∙ ap (λ (ks : Kinds). find (λ k. is_of (descriptor_for k ks) text) TRIED) c.descriptors-kinds.ensures in
    sym (type_of-none m text general none)
