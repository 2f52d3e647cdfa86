-- A source whose bytes are decoded.
use Rattle.std.specs.Prelude.{ℕ, List, ◌++◌, Option, option_map}
use Rattle.phone_encodings.specs.Encodings.{decoded}
use Rattle.phone_encodings.specs.declared.encoding.Encoding.{Encoding}

-- what it has: the source below, the encoding of that, the bytes that were read and are still to be
-- decoded, and the text that is decoded and still to pass
pub record Decoding (S : Type 0) : Type 0 where
  pub source : S
  pub encoding : Encoding
  pub held : List ℕ
  pub text : List ℕ

-- the text to come, by the bytes that are to come from the source below
abbrev pub text_to_come : {S : Type 0} → Decoding S → Option (List ℕ) → Option (List ℕ)
text_to_come d bytes = option_map (λ more. d.text ++ decoded d.encoding (d.held ++ more)) bytes
