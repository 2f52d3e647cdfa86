use Rattle.std.proofs.Common.{◌≡◌, ◌∙◌, chars, string_bytes}
use Rattle.std.proofs.lemmas.Result.{IfOk-weaker}
use Rattle.std.proofs.lemmas.Str.{IsUtf8-string_bytes, encodes-chars, encodes_same}
use Rattle.unicode_normalization.specs.Forms.{nfkd}
use Rattle.phone_places.proofs.folding.decomposed.Goals as goal

pub returns : goal.returns
returns c = IfOk-weaker c.to_nfkd.result _ (λ s. chars (string_bytes s) ≡ nfkd (chars c.args.text.now))
    (λ s given. encodes_same _ _ (encodes-chars _ (IsUtf8-string_bytes s) ∙ given)) c.to_nfkd.ensures
