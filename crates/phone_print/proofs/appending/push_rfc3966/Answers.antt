use Rattle.std.proofs.Common.{◌++◌, codes, chars, encode_utf8_all, string_bytes}
use Rattle.phone_print.specs.Texts.{extension_parameter, hyphenated}
use Rattle.phone_base.proofs.Outcomes.{of_done, where_done}
use Rattle.phone_print.proofs.Behinds.{append-then, behind-then}
use Rattle.phone_print.proofs.appending.push_rfc3966.Goals as goal

pub returns-clause-text : goal.returns-clause-text
returns-clause-text c = where_done c.push_parameter.result (λ ok.
    let laid = encode_utf8_all (hyphenated (chars c.args.laid.now)) in
    let more = extension_parameter c.args.number.now.extension in
    let w6 = of_done c.push_parameter.result c.push_parameter.ensures.text ok in
    let w5 = of_done c.push_hyphens-done.result c.push_hyphens-done.ensures.text w6.0 in
    let w4 = of_done c.push_text-done-4.result c.push_text-done-4.ensures.text w5.0 in
    let w3 = of_done c.push_text-done-3.result c.push_text-done-3.ensures.text w4.0 in
    let w2 = of_done c.push_text-done-2.result c.push_text-done-2.ensures.text w3.0 in
    let w1 = of_done c.push_text-done.result c.push_text-done.ensures.text w2.0 in
    (w1.0, (append-then (string_bytes c.args.out.now) (codes "tel:") (string_bytes c.push_text-done.new.out) ((codes "+") ++ (c.args.code.now ++ ((codes "-") ++ (laid ++ more)))) (string_bytes c.push_parameter.new.out) w1.1 (append-then (string_bytes c.push_text-done.new.out) (codes "+") (string_bytes c.push_text-done-2.new.out) (c.args.code.now ++ ((codes "-") ++ (laid ++ more))) (string_bytes c.push_parameter.new.out) w2.1 (append-then (string_bytes c.push_text-done-2.new.out) c.args.code.now (string_bytes c.push_text-done-3.new.out) ((codes "-") ++ (laid ++ more)) (string_bytes c.push_parameter.new.out) w3.1 (append-then (string_bytes c.push_text-done-3.new.out) (codes "-") (string_bytes c.push_text-done-4.new.out) (laid ++ more) (string_bytes c.push_parameter.new.out) w4.1 (append-then (string_bytes c.push_text-done-4.new.out) laid (string_bytes c.push_hyphens-done.new.out) more (string_bytes c.push_parameter.new.out) w5.1 w6.1)))))))

pub returns-clause-behind : goal.returns-clause-behind
returns-clause-behind c =
    (behind-then (string_bytes c.args.out.now) (string_bytes c.push_text-done.new.out) (string_bytes c.push_parameter.new.out) c.push_text-done.ensures.behind (behind-then (string_bytes c.push_text-done.new.out) (string_bytes c.push_text-done-2.new.out) (string_bytes c.push_parameter.new.out) c.push_text-done-2.ensures.behind (behind-then (string_bytes c.push_text-done-2.new.out) (string_bytes c.push_text-done-3.new.out) (string_bytes c.push_parameter.new.out) c.push_text-done-3.ensures.behind (behind-then (string_bytes c.push_text-done-3.new.out) (string_bytes c.push_text-done-4.new.out) (string_bytes c.push_parameter.new.out) c.push_text-done-4.ensures.behind (behind-then (string_bytes c.push_text-done-4.new.out) (string_bytes c.push_hyphens-done.new.out) (string_bytes c.push_parameter.new.out) c.push_hyphens-done.ensures.behind c.push_parameter.ensures.behind)))))
