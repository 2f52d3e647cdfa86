use Rattle.std.proofs.Common.{sym, ◌∙◌, true≢false}
use Rattle.phone_library_text.specs.Viable.{plain}
use Rattle.phone_library_text.proofs.viable.all_if_viable.Goals as goal

pub returns-then-is_viable : goal.returns-then-is_viable
returns-then-is_viable c = (c.is_viable.ensures.0 c.if-is_viable.true, plain c.requires)

pub returns-else-is_viable : goal.returns-else-is_viable
returns-else-is_viable c = λ v. true≢false (sym (c.is_viable.ensures.1 v) ∙ c.if-is_viable.false)
