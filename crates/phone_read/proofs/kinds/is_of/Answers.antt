use Rattle.std.proofs.Common.{◌≡◌, IfOk, ap, sym, subst}
use Rattle.std.specs.Option.{option_copied}
use Rattle.phone_read.specs.Kinds.{is_of}
use Rattle.phone_read.proofs.kinds.is_of.Goals as goal

pub returns-in-Some : goal.returns-in-Some
returns-in-Some c =
    subst (λ o. IfOk c.is_match_in.result (λ b. b ≡ is_of (option_copied o) c.args.text.now)) (sym c.in-Some.is) c.is_match_in.ensures.matched

pub returns-in-None : goal.returns-in-None
returns-in-None c = ap (λ o. is_of (option_copied o) c.args.text.now) (sym c.in-None.is)
