use Rattle.std.proofs.Common.{rules, ◌≡◌, ℕ, suc, false, true, [], ◌∷◌, ◌++◌, chars, encode_utf8, append_assoc, append-nil, ap, sym, ◌∙◌, refl, arith}
use Rattle.std.proofs.lemmas.Str.{chars-nil}
use Rattle.phone_matches_text.proofs.Ends.{end_of_end}
use Rattle.phone_matches_text.specs.Sets.{is_in}
use Rattle.phone_matches_text.proofs.Steps.{first_later}
use Rattle.phone_matches_text.specs.Shapes.{from_first}
use Rattle.phone_matches_text.proofs.shapes.from_first.Goals as goal

pub loop-after-preserved : goal.loop-after-preserved
loop-after-preserved g c =
    let q = g.T.Shape.passes c.args.shape.now in
    let x = c.in-Some.field-0-0 in
    let next = chars c.in-Some.after.now in (
      search rules,
      end_of_end _ _ _ c.loop-after.invariant.1 c.in-Some.ensures.end,
      c.loop-after.invariant.2 ∙ ap (from_first q) c.in-Some.ensures.read
          ∙ first_later q x next (ap q (sym c.in-Some.ensures.read) ∙ sym c.passes.ensures ∙ c.if-passes.false),
    )
