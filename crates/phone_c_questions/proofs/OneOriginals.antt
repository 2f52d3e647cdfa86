-- How a number is printed as it was written is one.
use Rattle.std.proofs.Common.{◌≡◌, ◌++◌, ℕ, not, Bool, List, Option, None, Some, Result, IsSomeAnd, chars, refl, ap, sym, subst, ◌∙◌}
use Rattle.std.proofs.lemmas.List.{append_cancel_left}
use Rattle.phone_values.specs.Numbers.{text_of}
use Rattle.phone_values.specs.declared.country.Id.{Id}
use Rattle.phone_values.specs.declared.country.Source.{Source}
use Rattle.phone_values.specs.declared.error.ParseError.{ParseError}
use Rattle.phone_values.specs.declared.reading.Reading.{Reading}
use Rattle.phone_values.specs.declared.rules.Rules.TheVariants.{Library}
use Rattle.phone_engine.proofs.OneReading.{reading_same}
use Rattle.phone_library.specs.Readings.{ReadsByLibrary}
use Rattle.phone_records.specs.declared.loader.Format.{Format}
use Rattle.phone_records.specs.declared.loader.Metadata.{Metadata}
use Rattle.phone_dialling.specs.Abroad.{if_some}
use Rattle.phone_dialling.specs.Original
use Rattle.phone_dialling.specs.Original.{IsBehind, IsOriginal, IsToldText, LeavesPrefix, digits_of, hinted_text, is_valid_read, layout_in, region_of, unless_changed}
use Rattle.phone_c_base.proofs.OneAnswers.{one_number}
use Rattle.phone_c_base.specs.Hints.{hint_of}
use Rattle.phone_c_base.specs.Numbers.{IsNumber}
use Rattle.phone_c_base.specs.declared.number.Number as plain
use Rattle.phone_c_questions.specs.Formats.{IsTextAsWritten}

-- what may be there is one
some_one : {A : Type 0} (a b : A) → Some a ≡ Some b → a ≡ b
some_one a b e = cc

module _ (db : List Metadata) where
  read_one : (hint : Option Id) (t : List ℕ) (r s : Result Reading ParseError) →
      ReadsByLibrary db hint t r → ReadsByLibrary db hint t s → r ≡ s
  read_one hint t r s h g = reading_same Library db hint t r s h g

  behind_one : (hint : Option Id) (prefix digits : List ℕ) (a b : Bool) → IsBehind db hint prefix digits a →
      IsBehind db hint prefix digits b → a ≡ b
  behind_one hint prefix digits a b (Original.other h) (Original.other g) = refl
  behind_one hint prefix digits a b (Original.other h) (Original.read rest s e g) = absurd (h rest e)
  behind_one hint prefix digits a b (Original.read rest r e h) (Original.other g) = absurd (g rest e)
  behind_one hint prefix digits a b (Original.read rest r e h) (Original.read last s f g) =
      let same : rest ≡ last = append_cancel_left prefix rest last (sym e ∙ f) in
      let reads = subst (λ (t : List ℕ). ReadsByLibrary db hint (chars t) r) same h in
      ap (is_valid_read db) (read_one hint (chars last) r s reads g)

  leaves_one : (m : Metadata) (f : Format) (raw : List ℕ) (a b : Bool) → LeavesPrefix db m f raw a →
      LeavesPrefix db m f raw b → a ≡ b
  leaves_one m f raw a b (Original.none e) (Original.none g) = refl
  leaves_one m f raw a b (Original.none e) (Original.asked prefix c g h) =
      let wrong : None ≡ Some prefix = sym e ∙ g in absurd (cc)
  leaves_one m f raw a b (Original.asked prefix c e h) (Original.none g) =
      let wrong : None ≡ Some prefix = sym g ∙ e in absurd (cc)
  leaves_one m f raw a b (Original.asked prefix c e h) (Original.asked other d g k) =
      let same : prefix ≡ other = some_one prefix other (sym e ∙ g) in
      let IsSo = λ (p : List ℕ). IsBehind db (region_of m) p (digits_of raw) c in
      ap not (behind_one (region_of m) other (digits_of raw) c d (subst IsSo same h) k)

  module _ (from : Option Id) (raw : List ℕ) (n : Reading) where
    told_one : (m : Metadata) (f : Format) (s : Source) (t u : List ℕ) → IsToldText db from raw n m f s t →
        IsToldText db from raw n m f s u → t ≡ u
    told_one m f s t u Original.plus Original.plus = refl
    told_one m f s t u Original.idd Original.idd = refl
    told_one m f s t u Original.number Original.number = refl
    told_one m f s t u (Original.hint a h) (Original.hint b g) =
        ap (λ leaves. hinted_text db m f raw n leaves) (leaves_one m f raw a b h g)

  original_one : (from : Option Id) (n : Reading) (read : Option (List ℕ)) (t u : List ℕ) → IsOriginal db from n read t →
      IsOriginal db from n read u → t ≡ u
  original_one from n read t u Original.unread Original.unread = refl
  original_one from n read t u (Original.unlisted raw e) (Original.unlisted _ g) = refl
  original_one from n read t u (Original.unlisted raw e) (Original.unlaid _ m g k) = refl
  original_one from n read t u (Original.unlisted raw e) (Original.laid _ v m f g k h) =
      let wrong : None ≡ Some m = sym e ∙ g in absurd (cc)
  original_one from n read t u (Original.unlaid raw m e k) (Original.unlisted _ g) = refl
  original_one from n read t u (Original.unlaid raw m e k) (Original.unlaid _ j g l) = refl
  original_one from n read t u (Original.unlaid raw m e k) (Original.laid _ v j f g l h) =
      let same : m ≡ j = some_one m j (sym e ∙ g) in
      let IsSo = λ (o : Metadata). layout_in o (text_of n.national) ≡ None in
      let wrong : None ≡ Some f = sym (subst IsSo same k) ∙ l in absurd (cc)
  original_one from n read t u (Original.laid raw v m f e k h) (Original.unlisted _ g) =
      let wrong : None ≡ Some m = sym g ∙ e in absurd (cc)
  original_one from n read t u (Original.laid raw v j f e k h) (Original.unlaid _ m g l) =
      let same : m ≡ j = some_one m j (sym g ∙ e) in
      let IsSo = λ (o : Metadata). layout_in o (text_of n.national) ≡ None in
      let wrong : None ≡ Some f = sym (subst IsSo same l) ∙ k in absurd (cc)
  original_one from n read t u (Original.laid raw v m f e k h) (Original.laid _ w j d g l i) =
      let same : m ≡ j = some_one m j (sym e ∙ g) in
      let IsLaid = λ (o : Metadata). layout_in o (text_of n.national) ≡ Some f in
      let layout : f ≡ d = some_one f d (sym (subst IsLaid same k) ∙ l) in
      let IsBy = λ (o : Metadata). IsToldText db from raw n o f n.code.source v in
      let IsAs = λ (o : Format). IsToldText db from raw n j o n.code.source v in
      let told = subst IsAs layout (subst IsBy same h) in
      ap (unless_changed raw) (told_one from raw n j d n.code.source v w told i)

  pub one_original : (region raw : List ℕ) (x : plain.Number) (bytes t u : List ℕ) →
      IsTextAsWritten db region raw x bytes t → IsTextAsWritten db region raw x bytes u → t ≡ u
  one_original region raw x bytes t u = at (hint_of region)
    where
      IsSo : Option (Option Id) → List ℕ → Type 0
      IsSo o text = IsSomeAnd o (λ from. (n : Reading) × IsNumber x bytes n × IsOriginal db from n (if_some raw) text)

      at : (o : Option (Option Id)) → IsSo o t → IsSo o u → t ≡ u
      at None h g = absurd h
      at (Some from) h g =
          let same = one_number x bytes h.0 g.0 h.1 g.1 in
          let is = subst (λ (n : Reading). IsOriginal db from n (if_some raw) t) same h.2 in
          original_one from g.0 (if_some raw) t u is g.2
