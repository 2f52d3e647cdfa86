use Rattle.std.proofs.Common.{◌++◌, codes, string_bytes}
use Rattle.phone_print.specs.Texts.{extension_part}
use Rattle.phone_base.proofs.Outcomes.{of_done, where_done}
use Rattle.phone_print.proofs.Behinds.{append-then, behind-then}
use Rattle.phone_print.proofs.appending.push_international.Goals as goal

pub returns-clause-text : goal.returns-clause-text
returns-clause-text c = where_done c.push_national.result (λ ok.
    let laid = c.args.laid.now ++ extension_part c.args.m.now c.args.number.now.extension in
    let w4 = of_done c.push_national.result c.push_national.ensures.text ok in
    let w3 = of_done c.push_text-done-3.result c.push_text-done-3.ensures.text w4.0 in
    let w2 = of_done c.push_text-done-2.result c.push_text-done-2.ensures.text w3.0 in
    let w1 = of_done c.push_text-done.result c.push_text-done.ensures.text w2.0 in
    (w1.0, (append-then (string_bytes c.args.out.now) (codes "+") (string_bytes c.push_text-done.new.out) (c.args.code.now ++ ((codes " ") ++ laid)) (string_bytes c.push_national.new.out) w1.1 (append-then (string_bytes c.push_text-done.new.out) c.args.code.now (string_bytes c.push_text-done-2.new.out) ((codes " ") ++ laid) (string_bytes c.push_national.new.out) w2.1 (append-then (string_bytes c.push_text-done-2.new.out) (codes " ") (string_bytes c.push_text-done-3.new.out) laid (string_bytes c.push_national.new.out) w3.1 w4.1)))))

pub returns-clause-behind : goal.returns-clause-behind
returns-clause-behind c =
    (behind-then (string_bytes c.args.out.now) (string_bytes c.push_text-done.new.out) (string_bytes c.push_national.new.out) c.push_text-done.ensures.behind (behind-then (string_bytes c.push_text-done.new.out) (string_bytes c.push_text-done-2.new.out) (string_bytes c.push_national.new.out) c.push_text-done-2.ensures.behind (behind-then (string_bytes c.push_text-done-2.new.out) (string_bytes c.push_text-done-3.new.out) (string_bytes c.push_national.new.out) c.push_text-done-3.ensures.behind c.push_national.ensures.behind)))
