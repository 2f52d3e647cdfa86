-- How like a number and a text are, or two texts, is one, by what two numbers are.
use Rattle.std.proofs.Common.{◌≡◌, ℕ, List, Option, None, Some, Result, Ok, Err, chars, refl, ap, sym, subst, ◌∙◌}
use Rattle.std.specs.Option.{option_and_then}
use Rattle.phone_values.specs.Ids.{id_of}
use Rattle.phone_values.specs.declared.country.Id.{Id}
use Rattle.phone_values.specs.declared.error.ParseError.{ParseError}
use Rattle.phone_values.specs.declared.error.ParseError.TheVariants.{InvalidCountryCode}
use Rattle.phone_values.specs.declared.reading.Reading.{Reading}
use Rattle.phone_values.specs.declared.rules.Rules.TheVariants.{Library}
use Rattle.phone_engine.proofs.OneReading.{reading_same}
use Rattle.phone_library.specs.Readings.{ReadsByLibrary}
use Rattle.phone_library_text.proofs.WrittenOnes.{written_same}
use Rattle.phone_records.specs.declared.loader.Metadata.{Metadata}
use Rattle.phone_further.specs.TextMatches
use Rattle.phone_further.specs.TextMatches.{AreBareMatch, AreTextsMatch, IsBare, IsBeside, IsTextMatch, bare_number, match_read}
use Rattle.phone_questions.specs.declared.matches.NumberMatch.{NumberMatch}
use Rattle.phone_c_base.proofs.OneAnswers.{one_number}
use Rattle.phone_c_base.specs.declared.number.Number as plain
use Rattle.phone_c_questions.specs.Matches.{AreLikeTexts, IsLikeText, match_number}

-- what a result tells is one
ok_one : {A E : Type 0} (a b : A) → ◌≡◌ {A = Result A E} (Ok a) (Ok b) → a ≡ b
ok_one a b e = cc

bare_one : (t : List ℕ) (r s : Result Reading ParseError) → IsBare t r → IsBare t s → r ≡ s
bare_one t r s h g =
    h.read ∙ ap bare_number (written_same t h.written g.written h.is_written g.is_written) ∙ sym g.read

module _ (like guessed : Reading → Reading → NumberMatch) (db : List Metadata) where
  read_one : (hint : Option Id) (t : List ℕ) (r s : Result Reading ParseError) → ReadsByLibrary db hint t r →
      ReadsByLibrary db hint t s → r ≡ s
  read_one hint t r s h g = reading_same Library db hint t r s h g

  beside_one : (code : ℕ) (t : List ℕ) (r s : Result Reading ParseError) → IsBeside db code t r → IsBeside db code t s → r ≡ s
  beside_one code t r s (TextMatches.listed m _ f h) (TextMatches.listed k _ e g) =
      let some : Some m ≡ Some k = sym f ∙ e in
      let same : m ≡ k = cc in
      read_one (option_and_then id_of k.id) t r s (subst (λ (it : Metadata). ReadsByLibrary db (option_and_then id_of it.id) t r) same h) g
  beside_one code t r s (TextMatches.listed m _ f h) (TextMatches.unlisted _ e g) =
      let wrong : Some m ≡ None = sym f ∙ e in absurd (cc)
  beside_one code t r s (TextMatches.unlisted _ f h) (TextMatches.listed m _ e g) =
      let wrong : Some m ≡ None = sym e ∙ f in absurd (cc)
  beside_one code t r s (TextMatches.unlisted _ f h) (TextMatches.unlisted _ e g) = bare_one t r s h g

  module _ (n : Reading) (t : List ℕ) where
    text_one : (x y : NumberMatch) → IsTextMatch like guessed db n t x → IsTextMatch like guessed db n t y → x ≡ y
    text_one x y (TextMatches.read m h) (TextMatches.read k g) = ap (like n) (ok_one m k (read_one None t (Ok m) (Ok k) h g))
    text_one x y (TextMatches.read m h) (TextMatches.beside r g b) =
        let wrong = read_one None t (Ok m) (Err InvalidCountryCode) h g in absurd (cc)
    text_one x y (TextMatches.read m h) (TextMatches.refused e other g) =
        let wrong = read_one None t (Ok m) (Err e) h g in absurd (cc)
    text_one x y (TextMatches.beside r h b) (TextMatches.read m g) =
        let wrong = read_one None t (Ok m) (Err InvalidCountryCode) g h in absurd (cc)
    text_one x y (TextMatches.beside r h b) (TextMatches.beside s g c) =
        ap (match_read guessed n) (beside_one n.code.value t r s b c)
    text_one x y (TextMatches.beside r h b) (TextMatches.refused e other g) =
        let same = read_one None t (Err InvalidCountryCode) (Err e) h g in absurd (other (cc))
    text_one x y (TextMatches.refused e other h) (TextMatches.read m g) =
        let wrong = read_one None t (Ok m) (Err e) g h in absurd (cc)
    text_one x y (TextMatches.refused e other h) (TextMatches.beside r g b) =
        let same = read_one None t (Err InvalidCountryCode) (Err e) g h in absurd (other (cc))
    text_one x y (TextMatches.refused e other h) (TextMatches.refused d others g) = refl

  module _ (t u : List ℕ) where
    bares_one : (x y : NumberMatch) → AreBareMatch like t u x → AreBareMatch like t u y → x ≡ y
    bares_one x y (TextMatches.both n r h b) (TextMatches.both m s g c) =
        ap (λ k. match_read like k r) (ok_one n m (bare_one t (Ok n) (Ok m) h g)) ∙ ap (match_read like m) (bare_one u r s b c)
    bares_one x y (TextMatches.both n r h b) (TextMatches.refused e g) =
        let wrong = bare_one t (Ok n) (Err e) h g in absurd (cc)
    bares_one x y (TextMatches.refused e h) (TextMatches.both n r g b) =
        let wrong = bare_one t (Ok n) (Err e) g h in absurd (cc)
    bares_one x y (TextMatches.refused e h) (TextMatches.refused d g) = refl

    texts_one : (x y : NumberMatch) → AreTextsMatch like guessed db t u x → AreTextsMatch like guessed db t u y → x ≡ y
    texts_one x y (TextMatches.first n₁ k₁ h₁ m₁) (TextMatches.first n₂ k₂ h₂ m₂) =
        let same = ok_one n₁ n₂ (read_one None t (Ok n₁) (Ok n₂) h₁ h₂) in
        text_one n₂ u x y (subst (λ (n : Reading). IsTextMatch like guessed db n u x) same m₁) m₂
    texts_one x y (TextMatches.first n₁ k₁ h₁ m₁) (TextMatches.second n₂ k₂ h₂ i₂ m₂) =
        let wrong = read_one None t (Ok n₁) (Err InvalidCountryCode) h₁ h₂ in absurd (cc)
    texts_one x y (TextMatches.first n₁ k₁ h₁ m₁) (TextMatches.neither k₂ h₂ i₂ m₂) =
        let wrong = read_one None t (Ok n₁) (Err InvalidCountryCode) h₁ h₂ in absurd (cc)
    texts_one x y (TextMatches.first n₁ k₁ h₁ m₁) (TextMatches.first_refused e₂ other₂ h₂) =
        let wrong = read_one None t (Ok n₁) (Err e₂) h₁ h₂ in absurd (cc)
    texts_one x y (TextMatches.first n₁ k₁ h₁ m₁) (TextMatches.second_refused e₂ other₂ h₂ i₂) =
        let wrong = read_one None t (Ok n₁) (Err InvalidCountryCode) h₁ h₂ in absurd (cc)
    texts_one x y (TextMatches.second n₁ k₁ h₁ i₁ m₁) (TextMatches.first n₂ k₂ h₂ m₂) =
        let wrong = read_one None t (Err InvalidCountryCode) (Ok n₂) h₁ h₂ in absurd (cc)
    texts_one x y (TextMatches.second n₁ k₁ h₁ i₁ m₁) (TextMatches.second n₂ k₂ h₂ i₂ m₂) =
        let same = ok_one n₁ n₂ (read_one None u (Ok n₁) (Ok n₂) i₁ i₂) in
        text_one n₂ t x y (subst (λ (n : Reading). IsTextMatch like guessed db n t x) same m₁) m₂
    texts_one x y (TextMatches.second n₁ k₁ h₁ i₁ m₁) (TextMatches.neither k₂ h₂ i₂ m₂) =
        let wrong = read_one None u (Ok n₁) (Err InvalidCountryCode) i₁ i₂ in absurd (cc)
    texts_one x y (TextMatches.second n₁ k₁ h₁ i₁ m₁) (TextMatches.first_refused e₂ other₂ h₂) =
        let same = read_one None t (Err InvalidCountryCode) (Err e₂) h₁ h₂ in absurd (other₂ (cc))
    texts_one x y (TextMatches.second n₁ k₁ h₁ i₁ m₁) (TextMatches.second_refused e₂ other₂ h₂ i₂) =
        let wrong = read_one None u (Ok n₁) (Err e₂) i₁ i₂ in absurd (cc)
    texts_one x y (TextMatches.neither k₁ h₁ i₁ m₁) (TextMatches.first n₂ k₂ h₂ m₂) =
        let wrong = read_one None t (Err InvalidCountryCode) (Ok n₂) h₁ h₂ in absurd (cc)
    texts_one x y (TextMatches.neither k₁ h₁ i₁ m₁) (TextMatches.second n₂ k₂ h₂ i₂ m₂) =
        let wrong = read_one None u (Err InvalidCountryCode) (Ok n₂) i₁ i₂ in absurd (cc)
    texts_one x y (TextMatches.neither k₁ h₁ i₁ m₁) (TextMatches.neither k₂ h₂ i₂ m₂) = bares_one x y m₁ m₂
    texts_one x y (TextMatches.neither k₁ h₁ i₁ m₁) (TextMatches.first_refused e₂ other₂ h₂) =
        let same = read_one None t (Err InvalidCountryCode) (Err e₂) h₁ h₂ in absurd (other₂ (cc))
    texts_one x y (TextMatches.neither k₁ h₁ i₁ m₁) (TextMatches.second_refused e₂ other₂ h₂ i₂) =
        let same = read_one None u (Err InvalidCountryCode) (Err e₂) i₁ i₂ in absurd (other₂ (cc))
    texts_one x y (TextMatches.first_refused e₁ other₁ h₁) (TextMatches.first n₂ k₂ h₂ m₂) =
        let wrong = read_one None t (Err e₁) (Ok n₂) h₁ h₂ in absurd (cc)
    texts_one x y (TextMatches.first_refused e₁ other₁ h₁) (TextMatches.second n₂ k₂ h₂ i₂ m₂) =
        let same = read_one None t (Err e₁) (Err InvalidCountryCode) h₁ h₂ in absurd (other₁ (cc))
    texts_one x y (TextMatches.first_refused e₁ other₁ h₁) (TextMatches.neither k₂ h₂ i₂ m₂) =
        let same = read_one None t (Err e₁) (Err InvalidCountryCode) h₁ h₂ in absurd (other₁ (cc))
    texts_one x y (TextMatches.first_refused e₁ other₁ h₁) (TextMatches.first_refused e₂ other₂ h₂) = refl
    texts_one x y (TextMatches.first_refused e₁ other₁ h₁) (TextMatches.second_refused e₂ other₂ h₂ i₂) =
        let same = read_one None t (Err e₁) (Err InvalidCountryCode) h₁ h₂ in absurd (other₁ (cc))
    texts_one x y (TextMatches.second_refused e₁ other₁ h₁ i₁) (TextMatches.first n₂ k₂ h₂ m₂) =
        let wrong = read_one None t (Err InvalidCountryCode) (Ok n₂) h₁ h₂ in absurd (cc)
    texts_one x y (TextMatches.second_refused e₁ other₁ h₁ i₁) (TextMatches.second n₂ k₂ h₂ i₂ m₂) =
        let wrong = read_one None u (Err e₁) (Ok n₂) i₁ i₂ in absurd (cc)
    texts_one x y (TextMatches.second_refused e₁ other₁ h₁ i₁) (TextMatches.neither k₂ h₂ i₂ m₂) =
        let same = read_one None u (Err e₁) (Err InvalidCountryCode) i₁ i₂ in absurd (other₁ (cc))
    texts_one x y (TextMatches.second_refused e₁ other₁ h₁ i₁) (TextMatches.first_refused e₂ other₂ h₂) =
        let same = read_one None t (Err InvalidCountryCode) (Err e₂) h₁ h₂ in absurd (other₂ (cc))
    texts_one x y (TextMatches.second_refused e₁ other₁ h₁ i₁) (TextMatches.second_refused e₂ other₂ h₂ i₂) = refl

  pub one_text : (x : plain.Number) (bytes t : List ℕ) (j k : ℕ) → IsLikeText like guessed db x bytes t j → IsLikeText like guessed db x bytes t k → j ≡ k
  one_text x bytes t j k h g =
      let same = one_number x bytes h.0 g.0 h.2 g.2 in
      let is = subst (λ (n : Reading). IsTextMatch like guessed db n (chars t) h.1) same h.3 in
      h.4 ∙ ap match_number (text_one g.0 (chars t) h.1 g.1 is g.3) ∙ sym g.4

  pub one_texts : (t u : List ℕ) (j k : ℕ) → AreLikeTexts like guessed db t u j → AreLikeTexts like guessed db t u k → j ≡ k
  one_texts t u j k h g = h.2 ∙ ap match_number (texts_one (chars t) (chars u) h.0 g.0 h.1 g.1) ∙ sym g.2
