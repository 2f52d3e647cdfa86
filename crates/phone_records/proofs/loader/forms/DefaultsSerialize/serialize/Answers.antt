use Rattle.std.proofs.Common.{codes, ap, is_ok}
use Rattle.std.proofs.lemmas.Result.{on_ok_weaker}
use Rattle.phone_records.specs.Empty.{no_defaults}
use Rattle.phone_records.specs.Members.{defaults_members, descriptor_written, format_written}
use Rattle.phone_base.proofs.Outcomes.{of_done}
use Rattle.phone_records.proofs.Written.{member_written, members-cons, members-last, names_count, object_written}
use Rattle.phone_records.proofs.loader.forms.DefaultsSerialize.serialize.Goals as goal

pub returns : goal.returns
returns g c =
    let w2 = of_done c.write-done-2.result c.write-done-2.ensures (ap is_ok c.in_ok-done.was) in
    let w1 = of_done c.write-done.result c.write-done.ensures w2.0 in
    let begun = of_done c.begin_map-done.result c.begin_map-done.ensures w1.0 in
    on_ok_weaker c.end_map.result
    (object_written (defaults_members c.args.self.now) _ _ _ _ _ (names_count _ _ (defaults_members no_defaults) c.names.ensures) begun
    (members-cons (codes "format") _ _ _ _ _ (member_written _ format_written (λ x old new h. h) (codes "format") _ _ _ w1.1)
    (members-last (codes "descriptor") _ _ _ (member_written _ descriptor_written (λ x old new h. h) (codes "descriptor") _ _ _ w2.1))))
    c.end_map.ensures
