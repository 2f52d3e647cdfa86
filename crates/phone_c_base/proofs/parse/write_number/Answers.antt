use Rattle.std.proofs.Common.{◌∙◌}
use Rattle.phone_c_base.proofs.Places.{IsAt-front, IsAt-back}
use Rattle.phone_c_base.proofs.parse.write_number.Goals as goal

pub returns-then-status-eq-OK-clause-number : goal.returns-then-status-eq-OK-clause-number
returns-then-status-eq-OK-clause-number c = λ is_ok.
    let text = (c.give_two-status.ensures.written is_ok).text in
    let front = c.as_bytes.ensures.value ∙ c.or_empty-front.ensures in
    let back = c.as_bytes-2.ensures.value ∙ c.or_empty-back.ensures in
    record {
      numbers = c.number_of.ensures.numbers;
      extension = rw (c.number_of.ensures.extension, ← c.extension_of-extension.ensures)
          (c.part_of.ensures.part _ (rw (text, ← front) (IsAt-front _ _ _)));
      carrier = rw (c.number_of.ensures.carrier, ← c.carrier_of-carrier.ensures)
          (c.part_of-then-status-eq-OK.ensures.part _ (rw (text, ← back, c.as_bytes.ensures.value) (IsAt-back _ _ _)));
    }
