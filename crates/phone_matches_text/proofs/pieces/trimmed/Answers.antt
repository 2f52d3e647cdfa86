use Rattle.std.proofs.Common.{rules, ◌≡◌, ℕ, suc, false, true, [], ◌∷◌, ◌++◌, chars, encode_utf8, append_assoc, append-nil, ap, sym, ◌∙◌, refl, arith}
use Rattle.std.proofs.lemmas.Str.{chars-nil}
use Rattle.phone_matches_text.proofs.Ends.{end_of_end}
use Rattle.phone_matches_text.specs.Sets.{is_in}
use Rattle.phone_matches_text.proofs.Steps.{trimmed_kept, trimmed_more}
use Rattle.phone_matches_text.specs.Pieces.{trimmed}
use Rattle.phone_matches_text.proofs.pieces.trimmed.Goals as goal

pub returns-then-is_last-clause-read : goal.returns-then-is_last-clause-read
returns-then-is_last-clause-read c =
    let read = c.in-Some.ensures.read in
    sym (c.loop-front.invariant.2 ∙ ap trimmed read ∙ trimmed_kept _ _ (sym c.is_last.ensures ∙ c.if-is_last.true) ∙ sym read)

pub loop-front-preserved : goal.loop-front-preserved
loop-front-preserved c =
    let v = c.loop-front.invariant.1 in (
      search rules,
      (encode_utf8 c.in-Some.c ++ v.0, v.1 ∙ ap (λ t. t ++ v.0) c.in-Some.ensures.cut ∙ append_assoc c.in-Some.front.now (encode_utf8 c.in-Some.c) v.0),
      c.loop-front.invariant.2 ∙ ap trimmed c.in-Some.ensures.read ∙ trimmed_more _ _ (sym c.is_last.ensures ∙ c.if-is_last.false),
    )

pub returns-clause-read : goal.returns-clause-read
returns-clause-read c =
    let nothing = ap chars c.in_default.ensures.cut ∙ chars-nil in
    nothing ∙ sym (c.loop-front.invariant.2 ∙ ap trimmed nothing)
