use Rattle.std.proofs.Common.{◌∷◌, ◌++◌, ap, ◌∙◌}
use Rattle.std.proofs.lemmas.Result.{on_ok_weaker}
use Rattle.phone_commands.specs.Pairs.IsWithTab.{kept, pair}
use Rattle.phone_commands.proofs.PairLemmas.{pair_text}
use Rattle.phone_commands.proofs.pairs.push_with_tab.Goals as goal

pub returns-in-Some : goal.returns-in-Some
returns-in-Some c =
    let p = rw c.in-Some.is at c.in_ok-pair.ensures in
    let items = c.args.bytes.now.items in
    on_ok_weaker c.push_pair.result
    (λ e. (p.0 ++ 9 ∷ p.1, pair p.0 p.1 p.2, e ∙ ap (λ t. items ++ t) (pair_text _ p.0 p.1 p.3)))
    c.push_pair.ensures

pub returns-in-None : goal.returns-in-None
returns-in-None c =
    let none = rw c.in-None.is at c.in_ok-pair.ensures in
    on_ok_weaker c.push_bytes.result (λ e. (c.args.line.now, kept none, e)) c.push_bytes.ensures
