use Rattle.std.proofs.Common.{ℕ, List, Option, None, IfOk, string_bytes, ap, subst, sym}
use Rattle.std.specs.Option.{option_copied}
use Rattle.phone_dialling.specs.Abroad.{dialled_text}
use Rattle.phone_dialling.proofs.Answered.{told_so}
use Rattle.phone_dialling.specs.Dialled
use Rattle.phone_dialling.specs.Dialled.{IsDialled}
use Rattle.phone_dialling.proofs.dialled.dialled_with_letters.Goals as goal

pub returns-in-Some : goal.returns-in-Some
returns-in-Some c =
    subst (λ (o : Option (List ℕ)). IfOk c.written.result (λ t. IsDialled c.args.database.now c.args.from c.args.number.now o (string_bytes t)))
    (sym (ap option_copied c.in-Some.is)) c.written.ensures

pub returns-in-None : goal.returns-in-None
returns-in-None c =
    let db = c.args.database.now in
    let n = c.args.number.now in
    let unread = subst (λ (o : Option (List ℕ)). IsDialled db c.args.from n o (dialled_text db c.args.from None n))
    (sym (ap option_copied c.in-None.is)) Dialled.unread in
    told_so string_bytes (IsDialled db c.args.from n (option_copied c.args.raw)) (dialled_text db c.args.from None n) c.dialled_text.result unread c.dialled_text.ensures
