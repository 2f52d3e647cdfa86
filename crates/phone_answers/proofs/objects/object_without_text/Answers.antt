use Rattle.std.proofs.Common.{◌≡◌, rules}
use Rattle.serde_json.specs.Data.{null}
use Rattle.serde_json.specs.View.{view}
use Rattle.serde_json.specs.declared.value.Value.{Null, the_lemmas}
use Rattle.phone_answers.proofs.objects.object_without_text.Goals as goal

view-Null : view Null ≡ null
view-Null = search (rules, the_lemmas)

pub returns : goal.returns
returns c = c.object_of.ensures null view-Null
