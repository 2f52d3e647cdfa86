use Rattle.std.proofs.Common.{rules, ◌≡◌, ℕ, suc, false, true, [], ◌∷◌, ◌++◌, chars, encode_utf8, append_assoc, append-nil, ap, sym, ◌∙◌, refl, arith}
use Rattle.std.proofs.lemmas.Str.{chars-nil}
use Rattle.phone_matches_text.proofs.Ends.{end_of_end}
use Rattle.phone_matches_text.specs.Sets.{is_in}
use Rattle.phone_matches_text.proofs.Steps.{few_more}
use Rattle.phone_matches_text.specs.Shapes.{after_few}
use Rattle.phone_matches_text.proofs.shapes.after_few.Goals as goal

pub loop-left-preserved : goal.loop-left-preserved
loop-left-preserved c = (
  search rules,
  end_of_end _ _ _ c.loop-left.invariant.1 c.in-Some.ensures.end,
  c.loop-left.invariant.2 ∙ ap (after_few (is_in c.args.set) c.loop-left.left) c.in-Some.ensures.read
      ∙ few_more (is_in c.args.set) _ _ _ _ (omega (arith, c.loop-left-test.true)) (sym c.has.ensures ∙ c.if-not-has.false),
)
