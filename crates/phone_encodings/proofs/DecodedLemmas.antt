-- The text to come of a source that is decoded.
use Rattle.std.proofs.Common.{◌≡◌, ℕ, List, [], ◌++◌, Option, None, Some, append_assoc, ap, refl}
use Rattle.std.proofs.Common.{subst, sym, ◌∙◌}
use Rattle.std.specs.Prelude.{encode_utf8_all, option_map}
use Rattle.std.proofs.lemmas.List.{append-nil}
use Rattle.phone_device.specs.Passing.{IsAtEnd, Passes}
use Rattle.phone_encodings.specs.Encodings.{characters, decoded}
use Rattle.phone_encodings.specs.declared.encoding.Encoding.{Encoding}
use Rattle.phone_encodings.proofs.LeftOvers.{none_decoded}

-- the text to come, by the text and the bytes that are held
abbrev pub coming : List ℕ → Encoding → List ℕ → Option (List ℕ) → Option (List ℕ)
coming text e held bytes = option_map (λ more. text ++ decoded e (held ++ more)) bytes

module _ (held read text left : List ℕ) (e f : Encoding)
    (known : (more : List ℕ) →
    characters f ((held ++ read) ++ more) ≡ characters e ((held ++ read) ++ more)) where
  -- bytes that were read behind those that are held are the same text
  same_text : (all rest : List ℕ) → all ≡ read ++ rest →
      decoded f ((held ++ read) ++ rest) ≡ decoded e (held ++ all)
  same_text all rest is = ap encode_utf8_all (known rest) ∙
      ap (decoded e) (append_assoc held read rest ∙ ap (λ x. held ++ x) (sym is))

  -- more was read, and decoded as far as it tells characters
  pub read_more : (a b : Option (List ℕ)) → Passes a read b →
      ((more : List ℕ) → text ++ decoded f (left ++ more) ≡
      decoded f ((held ++ read) ++ more)) → coming text f left b ≡ coming [] e held a
  read_more None b p is = ap (coming text f left) p
  read_more (Some all) b p is = ap (coming text f left) p.2 ∙
      ap (λ t. Some t) (is p.0 ∙ same_text all p.0 p.1)

  -- all was read, and what was left over decoded
  pub read_last : (a b : Option (List ℕ)) → Passes a read b → IsAtEnd b →
      text ++ decoded f left ≡ decoded f (held ++ read) → coming text f left b ≡ coming [] e held a
  read_last None b p end is = ap (coming text f left) p
  read_last (Some all) b p end is =
      let none : [] ≡ p.0 = subst IsAtEnd p.2 end in
      ap (coming text f left) p.2 ∙ ap (λ t. Some t)
      (ap (λ r. text ++ decoded f (left ++ r)) (sym none) ∙
      ap (λ l. text ++ decoded f l) (append-nil left) ∙ is ∙
      ap (decoded f) (sym (append-nil (held ++ read))) ∙
      ap (λ r. decoded f ((held ++ read) ++ r)) none ∙ same_text all p.0 p.1)

-- bytes that were read, and none decoded
pub held_more : (held read : List ℕ) (e : Encoding) (a b : Option (List ℕ)) → Passes a read b →
    coming [] e (held ++ read) b ≡ coming [] e held a
held_more held read e a b p =
    read_more held read [] (held ++ read) e e (λ more. refl) a b p (λ more. refl)

-- none are to come where nothing is left
pub none_left : (text held : List ℕ) (e : Encoding) (b : Option (List ℕ)) → text ≡ [] →
    held ≡ [] → IsAtEnd b → IsAtEnd (coming text e held b)
none_left text held e None t h end = tt
none_left text held e (Some rest) t h end =
    sym (ap (λ x. x ++ decoded e (held ++ rest)) t ∙ ap (λ x. decoded e (x ++ rest)) h ∙
    ap (decoded e) (sym end) ∙ ap encode_utf8_all (none_decoded e))

-- a beginning of the text passes
pub given : (text front rest held : List ℕ) (e : Encoding) (b : Option (List ℕ)) →
    text ≡ front ++ rest → Passes (coming text e held b) front (coming rest e held b)
given text front rest held e None is = refl
given text front rest held e (Some bytes) is = (
  rest ++ decoded e (held ++ bytes),
  ap (λ t. t ++ decoded e (held ++ bytes)) is ∙ append_assoc front rest (decoded e (held ++ bytes)),
  refl,
)
