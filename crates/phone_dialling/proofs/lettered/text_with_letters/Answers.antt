use Rattle.std.proofs.Common.{ℕ, List, Option, None, IfOk, string_bytes, ap, sym, subst, ◌∙◌}
use Rattle.std.specs.Option.{option_and_then, option_copied}
use Rattle.phone_dialling.specs.Abroad.{dialled_text, if_some}
use Rattle.phone_dialling.proofs.Answered.{told_so}
use Rattle.phone_dialling.specs.Lettered
use Rattle.phone_dialling.specs.Lettered.{IsLettered}
use Rattle.phone_dialling.proofs.lettered.text_with_letters.Goals as goal

pub returns-in-Some : goal.returns-in-Some
returns-in-Some c =
    let given = sym (ap option_copied c.in-Some.is) ∙ c.given.ensures in
    subst (λ (o : Option (List ℕ)). IfOk c.lettered.result (λ t. IsLettered c.args.database.now c.args.from c.args.number.now o (string_bytes t))) given c.lettered.ensures

pub returns-in-None : goal.returns-in-None
returns-in-None c =
    let db = c.args.database.now in
    let n = c.args.number.now in
    let given = sym (ap option_copied c.in-None.is) ∙ c.given.ensures in
    let unread = subst (λ (o : Option (List ℕ)). IsLettered db c.args.from n o (dialled_text db c.args.from None n)) given Lettered.unread in
    told_so string_bytes (IsLettered db c.args.from n (option_and_then if_some (option_copied c.args.raw))) (dialled_text db c.args.from None n) c.dialled_text.result unread c.dialled_text.ensures
