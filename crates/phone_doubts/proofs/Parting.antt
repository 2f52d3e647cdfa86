-- Two numbers that a separator parts, looked for place by place.
use Rattle.std.proofs.Common.{◌≡◌, inl, inr, ℕ, ◌+◌, ◌-◌, Bor, true, false, List, [], ◌∷◌, ◌++◌, chars, drop, length, take, Option, Some, None, is_some, Result, Ok, Err, IfOk, MatchOption, ap, sym, subst, ◌∙◌, true≢false, arith, append-nil, length-append, IsUtf8}
use Rattle.std.proofs.Math.Nat.{eq-or-lt_of_le}
use Rattle.std.proofs.Math.Seq.{drop-append_seam, take-append_seam}
use Rattle.std.proofs.lemmas.Bool.{cases_lt, cond-false, cond-true}
use Rattle.std.proofs.lemmas.List.{append_cancel_left}
use Rattle.phone_records.specs.declared.loader.Metadata.{Metadata}
use Rattle.phone_values.specs.declared.country.Id.{Id}
use Rattle.phone_values.specs.declared.rules.Rules.{Rules}
use Rattle.std.specs.Str.Pattern.{FindsTextPrefix, StripsPrefix}
use Rattle.phone_library_text.proofs.Words.{word_found, word_lacks}
use Rattle.phone_parts.proofs.Prefixes.{is_front-append, is_front-no}
use Rattle.phone_parts.specs.Texts.{is_front}
use Rattle.phone_doubts.specs.Valid.{AreFirstTwo, ArePartedNumbers, IsNoPair, IsNumber, NoneBefore, before_end, behind_one_of, separators}

-- a word at the front of a text, by what follows it
pub stripped : (word text : List ℕ) → IsUtf8 word → IsUtf8 text → (o : Option (Bor (List ℕ))) →
    MatchOption o (FindsTextPrefix word text None) (λ x. StripsPrefix (FindsTextPrefix word) text x.now) →
    MatchOption o ((rest : List ℕ) → ¬ (chars text ≡ chars word ++ rest)) (λ x. chars text ≡ chars word ++ chars x.now)
stripped word text u v None h = word_lacks word text u v h
stripped word text u v (Some x) h = word_found word text x.now u h

-- a word stands at the front
pub front_here : (word rest t : List ℕ) (words : List (List ℕ)) → t ≡ word ++ rest → behind_one_of (word ∷ words) t ≡ Some rest
front_here word rest t words e =
    cond-true _ _ _ (ap (is_front word) e ∙ is_front-append word rest) ∙ ap Some (ap (drop (length word)) e ∙ drop-append_seam word rest)

-- or doesn't
pub front_later : (word t : List ℕ) (words : List (List ℕ)) → ((rest : List ℕ) → ¬ (t ≡ word ++ rest)) → behind_one_of (word ∷ words) t ≡ behind_one_of words t
front_later word t words none = cond-false _ _ _ (is_front-no word t none)

-- what stands before an end
pub before_end-is : (t first rest : List ℕ) → t ≡ first ++ rest → before_end t rest ≡ first
before_end-is t first rest e =
    let size : length t - length rest ≡ length first = omega (arith, ap length e, length-append first rest) in
    ap (λ n. take n t) size ∙ ap (take (length first)) e ∙ take-append_seam first rest

module _ (rules : Rules) (db : List Metadata) (hint : Option Id) where
  -- no separator stands at the front
  pub no_separator : (first rest : List ℕ) → behind_one_of separators rest ≡ None → (second : List ℕ) → ¬ (ArePartedNumbers rules db hint first rest second)
  no_separator first rest none second p = let bad : None ≡ Some second = sym none ∙ p.parted in cc

  -- two texts that are numbers
  abbrev pub AreBoth : List ℕ → List ℕ → Type 0
  AreBoth first second = IsNumber rules db hint first × IsNumber rules db hint second

  parted_so : (first rest second : List ℕ) → behind_one_of separators rest ≡ Some second → AreBoth first second → ArePartedNumbers rules db hint first rest second
  parted_so first rest second e both = record { parted = e; is_first = both.0; is_second = both.1 }

  not_parted_so : (first rest second : List ℕ) → behind_one_of separators rest ≡ Some second → ¬ (AreBoth first second) →
      (other : List ℕ) → ¬ (ArePartedNumbers rules db hint first rest other)
  not_parted_so first rest second e not_both other p =
      let f : Some second ≡ Some other = sym e ∙ p.parted in
      let same : second ≡ other = cc in
      not_both (p.is_first, subst (λ s. IsNumber rules db hint s) (sym same) p.is_second)

  -- what is found at a place
  abbrev pub Found : List ℕ → List ℕ → Option (Bor (List ℕ) × Bor (List ℕ)) → Type 0
  Found first rest found = MatchOption found ((second : List ℕ) → ¬ (ArePartedNumbers rules db hint first rest second))
      (λ p. (chars p.0.now ≡ first) × ArePartedNumbers rules db hint first rest (chars p.1.now))

  -- where a separator stands there
  pub found_so : {E : Type 0} (first rest : List ℕ) (a b : List ℕ) → chars a ≡ first → behind_one_of separators rest ≡ Some (chars b) →
      (r : Result (Option (Bor (List ℕ) × Bor (List ℕ))) E) →
      IfOk r (λ found. MatchOption found (¬ (AreBoth (chars a) (chars b))) (λ p. (p.0.now ≡ a) × (p.1.now ≡ b) × AreBoth (chars a) (chars b))) →
      IfOk r (λ found. Found first rest found)
  found_so first rest a b e parted (Ok None) h =
      not_parted_so first rest (chars b) parted (λ both. h (subst (λ f. AreBoth f (chars b)) (sym e) both))
  found_so first rest a b e parted (Ok (Some p)) h = (
    ap chars h.0 ∙ e,
    subst (λ s. ArePartedNumbers rules db hint first rest s) (ap chars (sym h.1))
        (parted_so first rest (chars b) parted (subst (λ f. AreBoth f (chars b)) e h.2)),
  )
  found_so first rest a b e parted (Err x) h = h

  -- what is found is found in the text
  pub found_in : (t first rest : List ℕ) → t ≡ first ++ rest → NoneBefore rules db hint t (length first) → (found : Option (Bor (List ℕ) × Bor (List ℕ))) →
      is_some found ≡ true → Found (before_end t rest) rest found →
      MatchOption found (IsNoPair rules db hint t) (λ p. AreFirstTwo rules db hint t (chars p.0.now) (chars p.1.now))
  found_in t first rest e none None is h = absurd (true≢false (sym is))
  found_in t first rest e none (Some p) is h =
      let same : chars p.0.now ≡ first = h.0 ∙ before_end-is t first rest e in
      record {
        numbers = record {
          rest = rest;
          whole = e ∙ ap (λ f. f ++ rest) (sym same);
          numbers = subst (λ f. ArePartedNumbers rules db hint f rest (chars p.1.now)) (sym h.0) h.1;
        };
        none_before = subst (λ (n : ℕ). NoneBefore rules db hint t n) (ap length (sym same)) none;
      }

  -- and where nothing is found, there is nothing
  pub none_found : (t first rest : List ℕ) → t ≡ first ++ rest → (found : Option (Bor (List ℕ) × Bor (List ℕ))) → is_some found ≡ false →
      Found (before_end t rest) rest found → (second : List ℕ) → ¬ (ArePartedNumbers rules db hint first rest second)
  none_found t first rest e None is h = subst (λ f. (second : List ℕ) → ¬ (ArePartedNumbers rules db hint f rest second)) (before_end-is t first rest e) h
  none_found t first rest e (Some p) is h = absurd (true≢false is)

  same_front : (t first rest passed tail : List ℕ) → t ≡ first ++ rest → t ≡ passed ++ tail → length first ≡ length passed → (first ≡ passed) × (rest ≡ tail)
  same_front t first rest passed tail e f same =
      let whole : first ++ rest ≡ passed ++ tail = sym e ∙ f in
      let front : first ≡ passed = sym (take-append_seam first rest) ∙ ap (λ n. take n (first ++ rest)) same ∙ ap (λ l. take (length passed) l) whole ∙ take-append_seam passed tail in
      (front, append_cancel_left passed rest tail (ap (λ l. l ++ rest) (sym front) ∙ whole))

  -- nor at it, and so none before the next place
  pub none_further : (t passed : List ℕ) (c : ℕ) (next : List ℕ) → t ≡ passed ++ c ∷ next → NoneBefore rules db hint t (length passed) →
      ((second : List ℕ) → ¬ (ArePartedNumbers rules db hint passed (c ∷ next) second)) → NoneBefore rules db hint t (length (passed ++ c ∷ []))
  none_further t passed c next whole none here first rest second e before =
      let size : length (passed ++ c ∷ []) ≡ length passed + 1 = length-append passed (c ∷ []) in
      elim (eq-or-lt_of_le (omega (arith, size, before))) [
        | inr less ↦ none first rest second e less
        | inl same ↦ λ p. let both = same_front t first rest passed (c ∷ next) e whole same in
            here second (subst (λ (r : List ℕ). ArePartedNumbers rules db hint passed r second) both.1
            (subst (λ (f : List ℕ). ArePartedNumbers rules db hint f rest second) both.0 p))
      ]

  -- at the end of the text no separator stands, and so there are none
  pub none_at_all : (t passed : List ℕ) → t ≡ passed ++ [] → NoneBefore rules db hint t (length passed) → IsNoPair rules db hint t
  none_at_all t passed whole none first second p =
      let size : length first + length p.rest ≡ length passed = sym (length-append first p.rest) ∙ ap length (sym p.whole ∙ whole ∙ append-nil passed) in
      elim (eq-or-lt_of_le (omega (arith, size))) [
        | inr less ↦ none first p.rest second p.whole less p.numbers
        | inl same ↦ let both = same_front t first p.rest passed [] p.whole whole same in
            no_separator first p.rest (ap (behind_one_of separators) both.1) second p.numbers
      ]

  -- a separator parts a text in one way
  behind_same : (first rest a other tail b : List ℕ) → first ≡ other → rest ≡ tail → ArePartedNumbers rules db hint first rest a →
      ArePartedNumbers rules db hint other tail b → a ≡ b
  behind_same first rest a other tail b e f p q =
      let both : Some a ≡ Some b = sym p.parted ∙ ap (behind_one_of separators) f ∙ q.parted in cc

  -- the first two numbers of a text are two texts
  pub two_same : (t a b c d : List ℕ) → AreFirstTwo rules db hint t a b → AreFirstTwo rules db hint t c d → (a ≡ c) × (b ≡ d)
  two_same t a b c d p q =
      elim (cases_lt (length a) (length c)) [
        | inl less ↦ absurd (q.none_before a p.numbers.rest b p.numbers.whole less p.numbers.numbers)
        | inr most ↦ elim (cases_lt (length c) (length a)) [
          | inl less ↦ absurd (p.none_before c q.numbers.rest d q.numbers.whole less q.numbers.numbers)
          | inr more ↦ let fronts = same_front t a p.numbers.rest c q.numbers.rest p.numbers.whole q.numbers.whole (omega (arith, most, more)) in
              (fronts.0, behind_same a p.numbers.rest b c q.numbers.rest d fronts.0 fronts.1 p.numbers.numbers q.numbers.numbers)
        ]
      ]
