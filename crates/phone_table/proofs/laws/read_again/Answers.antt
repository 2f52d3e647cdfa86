use Rattle.std.proofs.Common.{[]}
use Rattle.std.specs.Prelude.{if◌then◌else◌}
use Rattle.phone_table.specs.Answers.{IsAnswerOf}
use Rattle.phone_table.specs.Duplicates.{duplicate_names}
use Rattle.phone_table.specs.Headers.{headings}
use Rattle.phone_table.specs.Headers.{behind}
use Rattle.phone_table.proofs.ReadAgain.{read_back}
use Rattle.phone_table.proofs.laws.read_again.Goals as goal

pub returns : goal.returns
returns c rules db hint columns asked totals header bytes text t =
    let front = asked.front.now in
    read_back (IsAnswerOf rules db hint columns asked) asked.tells_duplicates asked.is_unique _ totals.counts header
    (behind front (if asked.tells_duplicates then duplicate_names else [])) (behind front (headings asked.extra.now)) _ _ bytes text t
