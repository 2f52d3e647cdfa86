use Rattle.std.proofs.Common.{rules, ◌≡◌, ℕ, suc, ◌-◌, false, true, [], ◌∷◌, ◌++◌, chars, encode_utf8, append_assoc, append-nil, ap, sym, ◌∙◌, refl, arith}
use Rattle.std.proofs.lemmas.Str.{chars-nil}
use Rattle.phone_matches_text.proofs.Ends.{end_of_end}
use Rattle.phone_matches_text.specs.Sets.{is_in}
use Rattle.phone_matches_text.proofs.Steps.{groups_more}
use Rattle.phone_matches_text.proofs.candidates.after_groups.Goals as goal

pub loop-left-preserved : goal.loop-left-preserved
loop-left-preserved c = (
  search rules,
  end_of_end _ _ _ c.loop-left.invariant.1 c.in-Some.ensures.end,
  c.loop-left.invariant.2 ∙ groups_more c.loop-left.left (c.loop-left.left - 1) (chars c.loop-left.rest.now) (chars c.in-Some.after.now) (omega (arith, c.loop-left-test.true)) c.in-Some.ensures.rest,
)
