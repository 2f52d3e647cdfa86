use Rattle.std.proofs.Common.{◌≡◌, ◌∙◌, chars, string_bytes}
use Rattle.std.proofs.lemmas.Result.{IfOk-weaker}
use Rattle.std.proofs.lemmas.Str.{IsUtf8-string_bytes, encodes-chars, encodes_same}
use Rattle.caseless.specs.Caseless.{default_case_fold}
use Rattle.phone_places.proofs.folding.case_folded.Goals as goal

pub returns : goal.returns
returns c = IfOk-weaker c.default_case_fold_str.result _ (λ s. chars (string_bytes s) ≡ default_case_fold (chars c.args.text.now))
    (λ s given. encodes_same _ _ (encodes-chars _ (IsUtf8-string_bytes s) ∙ given)) c.default_case_fold_str.ensures
