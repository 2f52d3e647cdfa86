use Rattle.std.proofs.Common.{arith, sym}
use Rattle.phone_matches.proofs.Lists.{told_length}
use Rattle.phone_matches.proofs.Parts.{other_length}
use Rattle.phone_matches.specs.Runs.{told}
use Rattle.phone_matches.proofs.exact.are_same.Goals as goal

pub returns-then-texts-others : goal.returns-then-texts-others
returns-then-texts-others c =
    let l = told_length c.args.texts.now in
    let m = told_length c.args.others.now in
    sym (other_length (told c.args.texts.now) (told c.args.others.now) (λ e. omega (arith, c.if-texts-others.true, l, m, e)))
