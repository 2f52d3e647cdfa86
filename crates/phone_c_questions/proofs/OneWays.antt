-- With the letters of a text a number is dialled in one way.
use Rattle.std.proofs.Common.{◌≡◌, ℕ, List, Option, None, Some, IsSomeAnd, chars, encode_utf8_all, refl, ap, sym, subst, ◌∙◌}
use Rattle.std.specs.Option.{option_and_then}
use Rattle.phone_values.specs.Numbers.{text_of}
use Rattle.phone_values.specs.declared.country.Id.{Id}
use Rattle.phone_values.specs.declared.reading.Reading.{Reading}
use Rattle.phone_library_text.proofs.ExtensionOnes.{numbers_same}
use Rattle.phone_plans.specs.CodeLookUps.{first_of, territories}
use Rattle.phone_records.specs.declared.loader.Metadata.{Metadata}
use Rattle.phone_dialling.specs.Abroad.{if_some}
use Rattle.phone_questions.specs.Regions.{territory_of}
use Rattle.phone_dialling.specs.Dialled
use Rattle.phone_dialling.specs.Dialled.{IsDialled, with_letters}
use Rattle.phone_dialling.specs.Kept.{written}
use Rattle.phone_dialling.specs.Lettered
use Rattle.phone_dialling.specs.Lettered.{IsKept, IsLettered, abroad_letters, home_letters}
use Rattle.phone_c_base.proofs.OneAnswers.{one_number}
use Rattle.phone_c_base.specs.Hints.{hint_of}
use Rattle.phone_c_base.specs.Numbers.{IsNumber}
use Rattle.phone_c_base.specs.declared.number.Number as plain
use Rattle.phone_c_questions.specs.Letters.{IsDialledText, IsLetteredText}

-- what a value is that is there is one
some_one : {A : Type 0} (a b : A) → ◌≡◌ {A = Option A} (Some a) (Some b) → a ≡ b
some_one a b e = cc

module _ (first : Metadata) (n : Reading) (text : List ℕ) (from : Option Metadata) where
  kept_one : (t u : List ℕ) → IsKept first n text from t → IsKept first n text from u → t ≡ u
  kept_one t u (Lettered.home m e) (Lettered.home k g) =
      ap (λ (it : Metadata). home_letters it n text) (some_one m k (sym e ∙ g))
  kept_one t u (Lettered.home m e) (Lettered.abroad number extension g h) =
      let wrong : Some m ≡ None = sym e ∙ g in absurd (cc)
  kept_one t u (Lettered.abroad number extension e h) (Lettered.home m g) =
      let wrong : Some m ≡ None = sym g ∙ e in absurd (cc)
  kept_one t u (Lettered.abroad number extension e h) (Lettered.abroad other behind g k) =
      ap (λ s. abroad_letters from first n (encode_utf8_all s))
      (numbers_same (chars text) number other extension behind h k).0

module _ (db : List Metadata) (from : Option Id) (n : Reading) where
  lettered_one : (read : Option (List ℕ)) (t u : List ℕ) → IsLettered db from n read t →
      IsLettered db from n read u → t ≡ u
  lettered_one read t u Lettered.unread Lettered.unread = refl
  lettered_one read t u (Lettered.unlisted raw e) (Lettered.unlisted _ g) = refl
  lettered_one read t u (Lettered.unlisted raw e) (Lettered.kept _ v m g h) =
      let wrong : None ≡ Some m = sym e ∙ g in absurd (cc)
  lettered_one read t u (Lettered.kept raw v m e h) (Lettered.unlisted _ g) =
      let wrong : None ≡ Some m = sym g ∙ e in absurd (cc)
  lettered_one read t u (Lettered.kept raw v m e h) (Lettered.kept _ w k g i) =
      let same : m ≡ k = some_one m k (sym e ∙ g) in
      let there = option_and_then (territory_of db) from in
      let text = written raw (text_of n.national) in
      kept_one k n text there v w (subst (λ (it : Metadata). IsKept it n text there v) same h) i

  dialled_one : (read : Option (List ℕ)) (t u : List ℕ) → IsDialled db from n read t →
      IsDialled db from n read u → t ≡ u
  dialled_one read t u Dialled.unread Dialled.unread = refl
  dialled_one read t u (Dialled.written raw front extension h) (Dialled.written _ other behind g) =
      ap (with_letters db from n) (numbers_same (chars raw) front other extension behind h g).0

module _ (db : List Metadata) (region raw : List ℕ) (x : plain.Number) (bytes t u : List ℕ) where
  pub one_lettered : IsLetteredText db region raw x bytes t → IsLetteredText db region raw x bytes u →
      t ≡ u
  one_lettered = at (hint_of region)
    where
      IsSo : Option (Option Id) → List ℕ → Type 0
      IsSo o text = IsSomeAnd o (λ from. (n : Reading) × IsNumber x bytes n × IsLettered db from n (if_some raw) text)

      at : (o : Option (Option Id)) → IsSo o t → IsSo o u → t ≡ u
      at None h g = absurd h
      at (Some from) h g =
          let same = one_number x bytes h.0 g.0 h.1 g.1 in
          let is = subst (λ (n : Reading). IsLettered db from n (if_some raw) t) same h.2 in
          lettered_one db from g.0 (if_some raw) t u is g.2

  pub one_dialled : IsDialledText db region raw x bytes t → IsDialledText db region raw x bytes u →
      t ≡ u
  one_dialled = at (hint_of region)
    where
      IsSo : Option (Option Id) → List ℕ → Type 0
      IsSo o text = IsSomeAnd o (λ from. (n : Reading) × IsNumber x bytes n × IsDialled db from n (Some raw) text)

      at : (o : Option (Option Id)) → IsSo o t → IsSo o u → t ≡ u
      at None h g = absurd h
      at (Some from) h g =
          let same = one_number x bytes h.0 g.0 h.1 g.1 in
          let is = subst (λ (n : Reading). IsDialled db from n (Some raw) t) same h.2 in
          dialled_one db from g.0 (Some raw) t u is g.2
