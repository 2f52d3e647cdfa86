-- What `replace` makes of a text by a mark of two letters is what the definition makes of it.
use Rattle.std.proofs.Common.{◌≡◌, ℕ, zero, suc, ◌<◌, ◌≤◌, ◌==◌, ◌&&◌, Bool, true, false, if◌then◌else◌, List, [], ◌∷◌, ◌++◌, length, take, drop, Some, refl, ap, ap₂, sym, subst, ◌∙◌, arith, inl, inr, eqb-true, eq-eqb, Bor, Result, IfOk}
use Rattle.std.proofs.lemmas.Bool.{and_parts, false_from_ne_true}
use Rattle.std.proofs.lemmas.List.{length-drop}
use Rattle.regex.proofs.ReplaceLemmas.{IfOk-weaker}
use Rattle.std.specs.Str.Pattern.{FindsText, HasTextAt, LacksTextAt}
use Rattle.std.specs.Str.Replace.{ReplacesMatches}
use Rattle.phone_pattern.specs.Rules.{with_mark}

module _ (a b : ℕ) (to : List ℕ) where
  -- a `$` and the two letters
  abbrev pub mark : List ℕ
  mark = 36 ∷ a ∷ b ∷ []

  -- whether three characters are the mark
  abbrev is_mark : ℕ → ℕ → ℕ → Bool
  is_mark x y z = (x == 36) && ((y == a) && (z == b))

  -- what the definition makes of them and of what follows, by that test
  abbrev by_test : ℕ → ℕ → ℕ → List ℕ → Bool → List ℕ
  by_test x y z s t = if t then to ++ with_mark a b to s else x ∷ with_mark a b to (y ∷ z ∷ s)

  is_mark-itself : is_mark 36 a b ≡ true
  is_mark-itself = ap₂ ◌&&◌ (eq-eqb a a refl) (eq-eqb b b refl)

  not_mark : (x y z : ℕ) (s : List ℕ) → LacksTextAt mark (x ∷ y ∷ z ∷ s) 0 → is_mark x y z ≡ false
  not_mark x y z s lacks = false_from_ne_true (is_mark x y z) (λ t. lacks s (same t))
    where
      same : is_mark x y z ≡ true → x ∷ y ∷ z ∷ s ≡ mark ++ s
      same t =
          let p = and_parts (x == 36) ((y == a) && (z == b)) t in
          let q = and_parts (y == a) (z == b) p.1 in
          ap (λ k. k ∷ y ∷ z ∷ s) (eqb-true x 36 p.0) ∙ ap₂ (λ k l. 36 ∷ k ∷ l ∷ s) (eqb-true y a q.0) (eqb-true z b q.1)

  too_short : (s : List ℕ) (i : ℕ) (rest : List ℕ) → length s < 3 → drop i s ≡ mark ++ rest → ⊥
  too_short s i rest short e =
      let long : length (drop i s) ≡ suc (suc (suc (length rest))) = ap length e in
      let left = length-drop i s in
      omega (arith, long, left)

  -- without the mark a text stays
  unmarked : (s : List ℕ) → ((i : ℕ) → i ≤ length s → LacksTextAt mark s i) → with_mark a b to s ≡ s
  unmarked [] lacks = refl
  unmarked (x ∷ []) lacks = refl
  unmarked (x ∷ y ∷ []) lacks = refl
  unmarked (x ∷ y ∷ z ∷ s) lacks =
      ap (by_test x y z s) (not_mark x y z s (lacks 0 (omega arith)))
      ∙ ap (λ t. x ∷ t) (unmarked (y ∷ z ∷ s) (λ i h. lacks (suc i) (omega arith)))

  -- the first mark becomes the text
  marked : (s : List ℕ) (i : ℕ) (rest : List ℕ) → ((k : ℕ) → k < i → LacksTextAt mark s k) → drop i s ≡ mark ++ rest →
      with_mark a b to s ≡ take i s ++ (to ++ with_mark a b to rest)
  marked s zero rest lacks e = ap (with_mark a b to) e ∙ ap (by_test 36 a b rest) is_mark-itself
  marked [] (suc i) rest lacks e = absurd (too_short [] (suc i) rest (omega arith) e)
  marked (x ∷ []) (suc i) rest lacks e = absurd (too_short (x ∷ []) (suc i) rest (omega arith) e)
  marked (x ∷ y ∷ []) (suc i) rest lacks e = absurd (too_short (x ∷ y ∷ []) (suc i) rest (omega arith) e)
  marked (x ∷ y ∷ z ∷ s) (suc i) rest lacks e =
      ap (by_test x y z s) (not_mark x y z s (lacks 0 (omega arith)))
      ∙ ap (λ t. x ∷ t) (marked (y ∷ z ∷ s) i rest (λ k h. lacks (suc k) (omega arith)) e)

  -- a match and what follows it
  after_match : (p s : List ℕ) (i j : ℕ) → p ≡ mark → FindsText p s (Some (i, j)) →
      with_mark a b to s ≡ take i s ++ (to ++ with_mark a b to (drop j s))
  after_match p s i j e found =
      marked s i (drop j s) (λ k h. subst (λ n. LacksTextAt n s k) e (found.0 k h)) (subst (λ n. drop i s ≡ n ++ drop j s) e found.1.split)

  -- a match is not empty
  not_empty : (p s : List ℕ) (i j : ℕ) → p ≡ mark → HasTextAt p s i j → i ≡ j → ⊥
  not_empty p s i j e at same =
      let three : length p ≡ 3 = ap length e in
      let ends = at.ends in
      omega (arith, three, ends, same)

  -- what `replace` makes of a text by this pattern, by so many matches
  abbrev Makes : ℕ → Bor (List ℕ) → List ℕ → List ℕ → Type 0
  Makes = ReplacesMatches (λ (q : Bor (List ℕ)). FindsText q.now) (λ (q r : Bor (List ℕ)). r.now ≡ q.now) to

  -- all marks are replaced
  pub replaced-with_mark : (n : ℕ) (p : Bor (List ℕ)) (s out : List ℕ) → p.now ≡ mark → Makes n p s out → out ≡ with_mark a b to s
  replaced-with_mark zero p s out e h = h.1 ∙ sym (unmarked s (λ i k. subst (λ t. LacksTextAt t s i) e (h.0 i k)))
  replaced-with_mark (suc n) p s out e (i, j, q, rest, found, keeps, inl goes, is) =
      is
      ∙ ap (λ t. take i s ++ (to ++ t)) (replaced-with_mark n q (drop j s) rest (keeps ∙ e) goes.1)
      ∙ sym (after_match p.now s i j e found)
  replaced-with_mark (suc n) p s out e (i, j, q, rest, found, keeps, inr empty, is) = absurd (not_empty p.now s i j e found.1 empty.0)

  -- the same of an answer
  pub all_replaced : {A E : Type 0} (bytes : A → List ℕ) (r : Result A E) (p : Bor (List ℕ)) (s : List ℕ) → p.now ≡ mark →
      IfOk r (λ out. (n : ℕ) × Makes n p s (bytes out)) → IfOk r (λ out. bytes out ≡ with_mark a b to s)
  all_replaced bytes r p s e h =
      IfOk-weaker (λ out. (n : ℕ) × Makes n p s (bytes out)) (λ out. bytes out ≡ with_mark a b to s)
      (λ out k. replaced-with_mark k.0 p s (bytes out) e k.1) r h
