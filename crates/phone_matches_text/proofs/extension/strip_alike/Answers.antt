use Rattle.std.proofs.Common.{rules, ◌≡◌, ℕ, suc, false, true, [], ◌∷◌, ◌++◌, chars, encode_utf8, append_assoc, append-nil, ap, sym, ◌∙◌, refl, arith}
use Rattle.std.proofs.lemmas.Str.{chars-nil}
use Rattle.phone_matches_text.proofs.Ends.{end_of_end}
use Rattle.phone_matches_text.specs.Sets.{is_in}
use Rattle.phone_matches_text.proofs.extension.strip_alike.Goals as goal

pub loop-w-preserved : goal.loop-w-preserved
loop-w-preserved c = (
  search rules,
  search rules,
  end_of_end _ _ _ c.loop-w.invariant.2 c.in_ok-c.ensures.end,
  c.loop-w.invariant.3 ∙ rw (c.in-Some.ensures.read, c.in_ok-c.ensures.read, ← c.same_folded.ensures, c.if-not-same_folded.false),
)
