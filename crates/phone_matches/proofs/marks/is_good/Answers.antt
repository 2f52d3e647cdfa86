use Rattle.std.proofs.Common.{◌↔◌, Bool, IsTrue, IfOk, chars, sym, subst}
use Rattle.phone_matches.specs.Marks.{IsGood}
use Rattle.phone_matches.proofs.marks.is_good.Goals as goal

pub returns-then-is_double : goal.returns-then-is_double
returns-then-is_double c =
    subst (λ (d : Bool). IfOk c.is_same_number.result (λ b. IsTrue b ↔ IsGood c.args.db.now c.args.number.now d (chars c.args.text.now)))
    (sym c.if-is_double.true) c.is_same_number.ensures
