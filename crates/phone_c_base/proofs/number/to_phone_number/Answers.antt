use Rattle.std.proofs.Common.{rules}
use Rattle.std.specs.Option.{option_copied}
use Rattle.phone_c_base.proofs.number.to_phone_number.Goals as goal

-- where memory is refused the parts are there, so there is a number
pub returns-clause-bad : goal.returns-clause-bad
returns-clause-bad c =
    let had = c.in-Some.ensures.found in (
      search rules,
      λ none. absurd (none
          (record {
            code = c.in-Some.plain.code;
            national = c.in-Some.plain.national;
            extension = option_copied c.in-Some-text_at.extension;
            carrier = option_copied c.in-Some-text_at-2.carrier;
          })
          (record {
            numbers = record { code = had.code; source = had.source; zeros = had.zeros; value = had.value; held = had.held };
            extension = c.in-Some-text_at.ensures.found;
            carrier = c.in-Some-text_at-2.ensures.found;
          })),
    )
