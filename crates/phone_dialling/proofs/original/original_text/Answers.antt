use Rattle.std.proofs.Common.{◌≡◌, ℕ, List, Option, None, string_bytes, ap, sym, subst}
use Rattle.std.specs.Option.{option_copied}
use Rattle.phone_values.specs.declared.mode.Mode.TheVariants.{National}
use Rattle.phone_dialling.specs.Original
use Rattle.phone_dialling.specs.Original.{IsOriginal}
use Rattle.phone_dialling.specs.Texts.{text_in}
use Rattle.phone_dialling.proofs.Answered.{told_so}
use Rattle.phone_dialling.proofs.original.original_text.Goals as goal

pub returns-in-None : goal.returns-in-None
returns-in-None c =
    let db = c.args.database.now in
    let n = c.args.number.now in
    let unread = subst (λ (o : Option (List ℕ)). IsOriginal db c.args.from n o (text_in db National None n)) (sym (ap option_copied c.in-None.is)) Original.unread in
    told_so string_bytes (IsOriginal db c.args.from n (option_copied c.args.raw)) (text_in db National None n) c.text_in.result unread c.text_in.ensures
