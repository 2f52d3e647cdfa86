use Rattle.std.proofs.Common.{rules, ◌≡◌, ℕ, suc, false, true, [], ◌∷◌, ◌++◌, chars, encode_utf8, append_assoc, append-nil, ap, sym, ◌∙◌, refl, arith}
use Rattle.std.proofs.lemmas.Str.{chars-nil}
use Rattle.phone_matches_text.proofs.Ends.{end_of_end}
use Rattle.phone_matches_text.specs.Sets.{is_in}
use Rattle.phone_matches_text.proofs.Steps.{spaces_more}
use Rattle.phone_matches_text.specs.Pieces.{after_spaces}
use Rattle.phone_matches_text.proofs.pieces.after_spaces.Goals as goal

pub loop-c-preserved : goal.loop-c-preserved
loop-c-preserved c = (
  search rules,
  end_of_end _ _ _ c.loop-c.invariant.1 c.in-Some.ensures.end,
  c.loop-c.invariant.2 ∙ ap (after_spaces c.args.stop) c.in-Some.ensures.read
      ∙ spaces_more c.args.stop _ _ (sym c.is_passed.ensures ∙ c.if-not-is_passed.false),
)
