use Rattle.std.proofs.Common.{ap}
use Rattle.serde_json.specs.Data.{no_members}
use Rattle.serde_json.specs.View.{members_view}
use Rattle.phone_answers.proofs.finds.object_of_found.Goals as goal

pub returns : goal.returns
returns c =
    let parts = c.with_parts_of-members.ensures _ (c.with_fields-members.ensures _
    (c.with_text-members.ensures _ (c.with_number-members-2.ensures _ (c.with_number-members.ensures no_members (ap members_view c.new.ensures.empty))))) in
    c.object_with.ensures _ (rw c.extension_of.ensures at (c.with_text.ensures _ parts))
