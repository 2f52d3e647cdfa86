-- Each doubt, told by what its own function answers.
use Rattle.std.proofs.Common.{◌≡◌, ◌↔◌, ℕ, Bor, Bool, true, false, not, IsTrue, List, chars, Option, Some, None, is_some, Result, Ok, Err, IfOk, MatchOption, refl, ap, sym, subst, ◌∙◌, true≢false}
use Rattle.std.specs.Option.{option_copied}
use Rattle.phone_engine.specs.Facts.{is_valid_by, region_by}
use Rattle.phone_records.specs.declared.loader.Metadata.{Metadata}
use Rattle.std.proofs.lemmas.Slice.Eq.{bytes_eq-Decides}
use Rattle.std.specs.Str.{bytes_eq}
use Rattle.phone_values.proofs.Texts.{id_of-name}
use Rattle.phone_values.specs.Ids.{id_of, name}
use Rattle.phone_values.specs.declared.country.Id.{Id}
use Rattle.phone_values.specs.declared.reading.Reading.{Reading}
use Rattle.phone_values.specs.declared.rules.Rules.{Rules}
use Rattle.phone_doubts.specs.Doubts
use Rattle.phone_doubts.specs.Doubts.{AreDoubts, IsDoubt, IsElsewhere, IsNotValid}
use Rattle.phone_doubts.specs.Fronts.{has_zero_in_brackets, LacksPlus, LacksZero}
use Rattle.phone_doubts.specs.Lettered.{HasLetters}
use Rattle.phone_doubts.specs.Spreadsheets.{is_date, is_float}
use Rattle.phone_doubts.specs.Valid.{AreFirstTwo, AreTwoNumbers, IsNoPair}
use Rattle.phone_doubts.specs.Words.{holds}
use Rattle.phone_doubts.specs.declared.doubt.Doubts.{Doubts as Found}
use Rattle.phone_doubts.specs.declared.doubt.Doubt.TheVariants as doubt

-- what is answered by one that answers another question as well
pub iff_ok : {E : Type 0} (P Q : Type 0) → P ↔ Q → (r : Result Bool E) → IfOk r (λ b. IsTrue b ↔ P) → IfOk r (λ b. IsTrue b ↔ Q)
iff_ok P Q f (Ok b) h = (λ yes. f.0 (h.0 yes), λ q. h.1 (f.1 q))
iff_ok P Q f (Err e) h = h

-- of what isn't so
pub never : (P : Type 0) → ¬ P → IsTrue false ↔ P
never P none = (λ no. absurd (true≢false (sym no)), λ p. absurd (none p))

-- what is equal, as an answer
pub eq_ok : {E : Type 0} (x : Bool) (r : Result Bool E) → IfOk r (λ b. b ≡ x) → IfOk r (λ b. IsTrue b ↔ (x ≡ true))
eq_ok x (Ok b) e = (λ yes. sym e ∙ yes, λ is. e ∙ is)
eq_ok x (Err e) h = h

-- of a number that is lent
pub of_lent : (P : Option Reading → Type 0) (o : Option (Bor Reading)) (n : Bor Reading) → o ≡ Some n → P (Some n.now) → P (option_copied o)
of_lent P o n e p = subst (λ (x : Option (Bor Reading)). P (option_copied x)) (sym e) p

module _ (rules : Rules) (db : List Metadata) (hint : Option Id) (t : List ℕ) where
  one : (m n : Reading) → Some n ≡ Some m → m ≡ n
  one m n e = let same : m ≡ n = cc in same

  no_one : (m : Reading) → ¬ (None ≡ Some m)
  no_one m e = cc

  pub no_plus : (n : Reading) → LacksPlus rules db hint t n ↔ IsDoubt rules db hint t (Some n) doubt.NoPlus
  no_plus n = (λ l. Doubts.no_plus n refl l, back)
    where
      back : IsDoubt rules db hint t (Some n) doubt.NoPlus → LacksPlus rules db hint t n
      back (Doubts.no_plus m e l) = subst (λ (k : Reading). LacksPlus rules db hint t k) (one m n e) l

  pub no_number_no_plus : ¬ (IsDoubt rules db hint t None doubt.NoPlus)
  no_number_no_plus (Doubts.no_plus m e l) = no_one m e

  pub brackets : (n : Reading) → (has_zero_in_brackets n.code.value t ≡ true) ↔ IsDoubt rules db hint t (Some n) doubt.ZeroInBrackets
  brackets n = (λ l. Doubts.zero_in_brackets n refl l, back)
    where
      back : IsDoubt rules db hint t (Some n) doubt.ZeroInBrackets → has_zero_in_brackets n.code.value t ≡ true
      back (Doubts.zero_in_brackets m e l) = subst (λ (k : Reading). has_zero_in_brackets k.code.value t ≡ true) (one m n e) l

  pub no_number_brackets : ¬ (IsDoubt rules db hint t None doubt.ZeroInBrackets)
  no_number_brackets (Doubts.zero_in_brackets m e l) = no_one m e

  pub letters : (n : Reading) → HasLetters (chars t) rules ↔ IsDoubt rules db hint t (Some n) doubt.Letters
  letters n = (λ l. Doubts.letters n refl l, back)
    where
      back : IsDoubt rules db hint t (Some n) doubt.Letters → HasLetters (chars t) rules
      back (Doubts.letters m e l) = l

  pub no_number_letters : ¬ (IsDoubt rules db hint t None doubt.Letters)
  no_number_letters (Doubts.letters m e l) = no_one m e

  pub two : (number : Option Reading) (first second : List ℕ) → AreTwoNumbers rules db hint (chars t) first second → IsTrue true ↔ IsDoubt rules db hint t number doubt.TwoNumbers
  two number first second p = (λ yes. Doubts.two_numbers first second p, λ d. refl)

  pub not_two : (number : Option Reading) → ((first second : List ℕ) → ¬ (AreTwoNumbers rules db hint (chars t) first second)) →
      IsTrue false ↔ IsDoubt rules db hint t number doubt.TwoNumbers
  not_two number none = never _ back
    where
      back : ¬ (IsDoubt rules db hint t number doubt.TwoNumbers)
      back (Doubts.two_numbers first second p) = none first second p

  -- two texts, told by whether they are there
  pub two_so : (number : Option Reading) (found : Option (Bor (List ℕ) × Bor (List ℕ))) →
      MatchOption found (IsNoPair rules db hint (chars t)) (λ p. AreFirstTwo rules db hint (chars t) (chars p.0.now) (chars p.1.now)) →
      (b : Bool) → b ≡ is_some found → IsTrue b ↔ IsDoubt rules db hint t number doubt.TwoNumbers
  two_so number None h b e = subst (λ (x : Bool). IsTrue x ↔ IsDoubt rules db hint t number doubt.TwoNumbers) (sym e) (not_two number h)
  two_so number (Some p) h b e = subst (λ (x : Bool). IsTrue x ↔ IsDoubt rules db hint t number doubt.TwoNumbers) (sym e) (two number (chars p.0.now) (chars p.1.now) h.numbers)

  pub zero_lost : (number : Option Reading) (region : Id) → hint ≡ Some region → IsNotValid rules db number →
      LacksZero rules db region t ↔ IsDoubt rules db hint t number doubt.ZeroLost
  zero_lost number region is not_valid = (λ l. Doubts.zero_lost region is not_valid l, back)
    where
      back : IsDoubt rules db hint t number doubt.ZeroLost → LacksZero rules db region t
      back (Doubts.zero_lost other e v l) =
          let both : Some other ≡ Some region = sym e ∙ is in
          let same : other ≡ region = cc in
          subst (λ (k : Id). LacksZero rules db k t) same l

  pub valid_zero_lost : (number : Option Reading) → ¬ (IsNotValid rules db number) → ¬ (IsDoubt rules db hint t number doubt.ZeroLost)
  valid_zero_lost number valid (Doubts.zero_lost other e v l) = valid v

  pub unhinted_zero_lost : (number : Option Reading) → hint ≡ None → ¬ (IsDoubt rules db hint t number doubt.ZeroLost)
  unhinted_zero_lost number is (Doubts.zero_lost other e v l) = let bad : None ≡ Some other = sym is ∙ e in cc

  pub elsewhere : (n : Reading) (region : Id) → hint ≡ Some region → IsElsewhere rules db region n ↔ IsDoubt rules db hint t (Some n) doubt.OtherRegion
  elsewhere n region is = (λ l. Doubts.other_region region n is refl l, back)
    where
      back : IsDoubt rules db hint t (Some n) doubt.OtherRegion → IsElsewhere rules db region n
      back (Doubts.other_region other m e f l) =
          let both : Some other ≡ Some region = sym e ∙ is in
          let same : other ≡ region = cc in
          subst (λ (k : Reading). IsElsewhere rules db region k) (one m n f) (subst (λ (k : Id). IsElsewhere rules db k m) same l)

  pub unhinted_elsewhere : (number : Option Reading) → hint ≡ None → ¬ (IsDoubt rules db hint t number doubt.OtherRegion)
  unhinted_elsewhere number is (Doubts.other_region other m e f l) = let bad : None ≡ Some other = sym is ∙ e in cc

  pub no_number_elsewhere : ¬ (IsDoubt rules db hint t None doubt.OtherRegion)
  no_number_elsewhere (Doubts.other_region other m e f l) = no_one m f

  -- the eight of them
  pub each : (number : Option Reading) (f : Found) → (f.float ≡ is_float t) → IsTrue f.no_plus ↔ IsDoubt rules db hint t number doubt.NoPlus →
      IsTrue f.zero_in_brackets ↔ IsDoubt rules db hint t number doubt.ZeroInBrackets → IsTrue f.letters ↔ IsDoubt rules db hint t number doubt.Letters →
      IsTrue f.two_numbers ↔ IsDoubt rules db hint t number doubt.TwoNumbers → (f.date ≡ is_date t) →
      IsTrue f.zero_lost ↔ IsDoubt rules db hint t number doubt.ZeroLost → IsTrue f.other_region ↔ IsDoubt rules db hint t number doubt.OtherRegion →
      AreDoubts rules db hint t number (holds f)
  each number f a b c d e g h i doubt.Float = (λ y. Doubts.float (sym a ∙ y), of_float)
    where
      of_float : IsDoubt rules db hint t number doubt.Float → f.float ≡ true
      of_float (Doubts.float x) = a ∙ x
  each number f a b c d e g h i doubt.NoPlus = b
  each number f a b c d e g h i doubt.ZeroInBrackets = c
  each number f a b c d e g h i doubt.Letters = d
  each number f a b c d e g h i doubt.TwoNumbers = e
  each number f a b c d e g h i doubt.Date = (λ y. Doubts.date (sym g ∙ y), of_date)
    where
      of_date : IsDoubt rules db hint t number doubt.Date → f.date ≡ true
      of_date (Doubts.date x) = g ∙ x
  each number f a b c d e g h i doubt.ZeroLost = h
  each number f a b c d e g h i doubt.OtherRegion = i

-- no valid number was read: of a number, and without one
pub not_valid : (rules : Rules) (db : List Metadata) (n : Reading) → (is_valid_by rules db n ≡ false) ↔ IsNotValid rules db (Some n)
not_valid rules db n = (λ e m f. let same : n ≡ m = cc in subst (λ (k : Reading). is_valid_by rules db k ≡ false) same e, λ all. all n refl)

pub none_valid : (rules : Rules) (db : List Metadata) → IsNotValid rules db None
none_valid rules db n e = cc

-- a number's region beside another
pub region_so : (rules : Rules) (db : List Metadata) (hint region : Id) (n : Reading) → Some region ≡ region_by rules db n → (¬ (region ≡ hint)) ↔ IsElsewhere rules db hint n
region_so rules db hint region n is = (λ other. (region, sym is, other), back)
  where
    back : IsElsewhere rules db hint n → ¬ (region ≡ hint)
    back (r, e, other) same = other (let both : Some r ≡ Some region = sym e ∙ sym is in let one : r ≡ region = cc in one ∙ same)

pub no_region_so : (rules : Rules) (db : List Metadata) (hint : Id) (n : Reading) → None ≡ region_by rules db n → ¬ (IsElsewhere rules db hint n)
no_region_so rules db hint n is (r, e, other) = let bad : None ≡ Some r = is ∙ e in cc

-- regions of one name are one
same_region : (a b : Id) → name a ≡ name b → a ≡ b
same_region a b e = let both : Some a ≡ Some b = sym (id_of-name a) ∙ ap id_of e ∙ id_of-name b in cc

-- two regions differ where their names do
pub other_so : (a b : Id) (one : Bool) → one ≡ bytes_eq (name a) (name b) → IsTrue (not one) ↔ ¬ (a ≡ b)
other_so a b true e = (λ bad. absurd (true≢false (sym bad)), λ other. absurd (other (same_region a b ((bytes_eq-Decides (name a) (name b)).0 (sym e)))))
other_so a b false e = (λ is same. true≢false (sym ((bytes_eq-Decides (name a) (name b)).1 (ap name same)) ∙ sym e), λ other. refl)
