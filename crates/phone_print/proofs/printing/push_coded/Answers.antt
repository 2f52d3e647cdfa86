use Rattle.std.proofs.Common.{[], ◌++◌, ◌∷◌, codes, chars, encode_utf8_all, string_bytes}
use Rattle.phone_print.specs.Texts.{extension_parameter, extension_part, hyphenated}
use Rattle.phone_base.proofs.Outcomes.{of_done, where_done}
use Rattle.phone_print.proofs.Behinds.{append-then, behind-then, where_refused}
use Rattle.phone_print.proofs.printing.push_coded.Goals as goal

pub returns-clause-texts : goal.returns-clause-texts
returns-clause-texts c = where_done c.push_rfc3966.result (λ ok.
    let e = 43 ∷ (c.args.code.now ++ c.args.digits.now) in
    let i = 43 ∷ (c.args.code.now ++ 32 ∷ (c.args.abroad.now ++ extension_part c.args.m.now c.args.number.now.extension)) in
    let n = c.args.at_home.now ++ extension_part c.args.m.now c.args.number.now.extension in
    let r = codes "tel:+" ++ (c.args.code.now ++ 45 ∷ (encode_utf8_all (hyphenated (chars c.args.abroad.now)) ++ extension_parameter c.args.number.now.extension)) in
    let w8 = of_done c.push_rfc3966.result c.push_rfc3966.ensures.text ok in
    let w7 = of_done c.push_text-done-4.result c.push_text-done-4.ensures.text w8.0 in
    let w6 = of_done c.push_national-done.result c.push_national-done.ensures.text w7.0 in
    let w5 = of_done c.push_text-done-3.result c.push_text-done-3.ensures.text w6.0 in
    let w4 = of_done c.push_international-done.result c.push_international-done.ensures.text w5.0 in
    let w3 = of_done c.push_text-done-2.result c.push_text-done-2.ensures.text w4.0 in
    let w2 = of_done c.push_e164-done.result c.push_e164-done.ensures.text w3.0 in
    let w1 = of_done c.push_text-done.result c.push_text-done.ensures.text w2.0 in
    (append-then (string_bytes c.args.line.now) (9 ∷ []) (string_bytes c.push_text-done.new.out) (e ++ ((9 ∷ []) ++ (i ++ ((9 ∷ []) ++ (n ++ ((9 ∷ []) ++ r)))))) (string_bytes c.push_rfc3966.new.out) w1.1 (append-then (string_bytes c.push_text-done.new.out) e (string_bytes c.push_e164-done.new.out) ((9 ∷ []) ++ (i ++ ((9 ∷ []) ++ (n ++ ((9 ∷ []) ++ r))))) (string_bytes c.push_rfc3966.new.out) w2.1 (append-then (string_bytes c.push_e164-done.new.out) (9 ∷ []) (string_bytes c.push_text-done-2.new.out) (i ++ ((9 ∷ []) ++ (n ++ ((9 ∷ []) ++ r)))) (string_bytes c.push_rfc3966.new.out) w3.1 (append-then (string_bytes c.push_text-done-2.new.out) i (string_bytes c.push_international-done.new.out) ((9 ∷ []) ++ (n ++ ((9 ∷ []) ++ r))) (string_bytes c.push_rfc3966.new.out) w4.1 (append-then (string_bytes c.push_international-done.new.out) (9 ∷ []) (string_bytes c.push_text-done-3.new.out) (n ++ ((9 ∷ []) ++ r)) (string_bytes c.push_rfc3966.new.out) w5.1 (append-then (string_bytes c.push_text-done-3.new.out) n (string_bytes c.push_national-done.new.out) ((9 ∷ []) ++ r) (string_bytes c.push_rfc3966.new.out) w6.1 (append-then (string_bytes c.push_national-done.new.out) (9 ∷ []) (string_bytes c.push_text-done-4.new.out) r (string_bytes c.push_rfc3966.new.out) w7.1 w8.1))))))))

pub returns-clause-behind : goal.returns-clause-behind
returns-clause-behind c =
    where_refused c.push_rfc3966.result (behind-then (string_bytes c.args.line.now) (string_bytes c.push_text-done.new.out) (string_bytes c.push_rfc3966.new.out) c.push_text-done.ensures.behind (behind-then (string_bytes c.push_text-done.new.out) (string_bytes c.push_e164-done.new.out) (string_bytes c.push_rfc3966.new.out) c.push_e164-done.ensures.behind (behind-then (string_bytes c.push_e164-done.new.out) (string_bytes c.push_text-done-2.new.out) (string_bytes c.push_rfc3966.new.out) c.push_text-done-2.ensures.behind (behind-then (string_bytes c.push_text-done-2.new.out) (string_bytes c.push_international-done.new.out) (string_bytes c.push_rfc3966.new.out) c.push_international-done.ensures.behind (behind-then (string_bytes c.push_international-done.new.out) (string_bytes c.push_text-done-3.new.out) (string_bytes c.push_rfc3966.new.out) c.push_text-done-3.ensures.behind (behind-then (string_bytes c.push_text-done-3.new.out) (string_bytes c.push_national-done.new.out) (string_bytes c.push_rfc3966.new.out) c.push_national-done.ensures.behind (behind-then (string_bytes c.push_national-done.new.out) (string_bytes c.push_text-done-4.new.out) (string_bytes c.push_rfc3966.new.out) c.push_text-done-4.ensures.behind c.push_rfc3966.ensures.behind)))))))
