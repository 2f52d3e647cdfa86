use Rattle.std.proofs.Common.{◌≡◌, ◌-◌, string_bytes, take, arith, ap, sym, ◌∙◌}
use Rattle.std.specs.List.{list_all}
use Rattle.phone_typed.specs.Keys.{is_key}
use Rattle.phone_typed.specs.Typed.{typed}
use Rattle.phone_typed.proofs.KeysOfTexts.{all-take}
use Rattle.phone_typed.proofs.typing.Typing.back.Goals as goal

pub invariant_of-self : goal.invariant_of-self
invariant_of-self c =
    let keys = string_bytes c.self.inside.keys in
    let n = c.saturating_sub-len.result in
    let same : string_bytes c.truncate.new.self ≡ take n keys = c.truncate.ensures.bytes in
    let whole : n - 0 ≡ n = omega arith in
    let front : c.range.result.now ≡ take n keys = c.range.ensures.value ∙ ap (λ k. take k c.as_str.result.now) whole ∙ ap (take n) c.as_str.ensures.value in (
      ap (list_all is_key) same ∙ all-take n keys c.self.invariant.0,
      c.in_ok-shown.ensures c.self.inside.hint (λ _. c.self.invariant.2) ∙ ap (typed c.self.inside.database.now c.self.inside.hint) (front ∙ sym same),
      c.self.invariant.2,
    )
