use Rattle.std.proofs.Common.{rules, ◌≡◌}
use Rattle.phone_csv.proofs.SpelledLemmas.{escaped_other, escaped_quote}
use Rattle.phone_csv.proofs.spelled.push_escaped.Goals as goal

pub returns-then-byte-eq34 : goal.returns-then-byte-eq34
returns-then-byte-eq34 c =
    let e : c.args.byte ≡ 34 = search rules in
    rw (escaped_quote c.args.delimiter c.args.byte e) (search rules)

pub returns : goal.returns
returns c =
    let n : c.args.byte ≡ 34 → ⊥ = search rules in
    rw (escaped_other c.args.delimiter c.args.byte n) (search rules)
