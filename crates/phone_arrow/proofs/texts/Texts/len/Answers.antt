use Rattle.std.proofs.Common.{rules, ◌≡◌, sym, ap, ◌∙◌, length}
use Rattle.phone_arrow.proofs.TextLemmas.{length-texts_in}
use Rattle.phone_arrow.proofs.texts.Texts.len.Goals as goal

pub returns : goal.returns
returns c = c.saturating_sub.ensures ∙ sym (ap length (sym c.self.view_is) ∙ length-texts_in c.self.inside.offsets.now c.self.inside.bytes.now c.self.inside.bits.now c.self.inside.first)
