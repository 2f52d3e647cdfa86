use Rattle.std.proofs.Common.{◌≡◌, ◌+◌, ◌-◌, ◌<◌, ◌≤◌, Some, length, ap, sym, ◌∙◌, arith}
use Rattle.phone_arrow.proofs.TextLemmas.{get-set, get-texts-past, get-unset}
use Rattle.phone_arrow.proofs.texts.Texts.get.Goals as goal

pub returns-then-at-saturating_sub : goal.returns-then-at-saturating_sub
returns-then-at-saturating_sub c =
    let i = c.self.inside in
    get-texts-past c.args.self.now i.offsets.now i.bytes.now i.bits.now i.first c.args.at c.self.view_is
    (omega (arith, c.saturating_sub.ensures, c.if-at-saturating_sub.true))

pub returns-then-is_set : goal.returns-then-is_set
returns-then-is_set c =
    let i = c.self.inside in
    ap Some c.piece.ensures ∙
    get-set c.args.self.now i.offsets.now i.bytes.now i.bits.now i.first c.args.at c.self.view_is
    (omega (arith, c.saturating_sub.ensures, c.if-at-saturating_sub.false)) (sym c.is_set.ensures ∙ c.if-is_set.true)

pub returns-else-is_set : goal.returns-else-is_set
returns-else-is_set c =
    let i = c.self.inside in
    get-unset c.args.self.now i.offsets.now i.bytes.now i.bits.now i.first c.args.at c.self.view_is
    (omega (arith, c.saturating_sub.ensures, c.if-at-saturating_sub.false)) (sym c.is_set.ensures ∙ c.if-is_set.false)
