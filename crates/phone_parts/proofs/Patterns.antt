-- What `str`'s patterns of one character find in a text.
use Rattle.std.proofs.Common.{◌≡◌, ℕ, ◌<◌, Bool, true, false, ◌==◌, List, [], ◌∷◌, ◌++◌, drop, get_or, Option, Some, None, MatchOption, MatchBool, IsUtf8, encode_utf8_all, encode_utf8, eqb-true, true≢false, refl, ap, sym, subst, ◌∙◌, arith, Bor, unwrap_or}
use Rattle.std.proofs.lemmas.Bool.{and_parts, eq-eqb, false_from_ne_true, or_parts}
use Rattle.std.proofs.lemmas.Fn.{always_returns_same}
use Rattle.std.proofs.lemmas.Str.{chars_past_char, chars_from_encodes, encodes-chars, scalars-chars, NoCharPasses-byte}
use Rattle.std.proofs.lemmas.Str.Pattern.{contains_char}
use Rattle.std.specs.Bool.{Decides}
use Rattle.std.specs.List.{list_any}
use Rattle.std.specs.Str.{NonePass, NoCharPasses, chars, all_scalars}
use Rattle.std.specs.Str.Pattern.{FindsChar, FindsCharPrefix, FindsPrefixBy, HasMatch, HasPrefixMatch, StripsPrefix}
use denote.Param.Members.{Mut}
use Rattle.phone_chars.proofs.Trims.{FindsFirst, Answers}
use Rattle.phone_chars.specs.Characters.{is_one_of}
use Rattle.phone_parts.specs.Texts.{begins, after_one}

-- a character finds what its own set does
pub one_char : (c : ℕ) (s : List ℕ) (o : Option ℕ) → FindsCharPrefix c s o → FindsPrefixBy (λ d. d == c) s o
one_char c s None none = λ d rest scalar e. false_from_ne_true (d == c) (λ t. none rest (e ∙ ap (λ x. encode_utf8 x ++ rest) (eqb-true d c t)))
one_char c s (Some n) found = (c, eq-eqb c c refl, found)

-- the text s is a character of the set and then r
pub record IsPastOne (p : ℕ → Bool) (s r : List ℕ) : Type 0 where
  pub c : ℕ
  pub member : p c ≡ true
  pub cut : s ≡ encode_utf8 c ++ r
  pub read : chars s ≡ c ∷ chars r

-- a text whose first character was cut off, where it is in the set
abbrev pub IsStripped : (ℕ → Bool) → List ℕ → Option (Bor (List ℕ)) → Type 0
IsStripped p s o = MatchOption o (begins p (chars s) ≡ false) (λ x. IsPastOne p s x.now)

module _ (p : ℕ → Bool) (R : List ℕ → Option ℕ → Type 0) (finds : (s : List ℕ) (o : Option ℕ) → R s o → FindsPrefixBy p s o) where
  -- where one is found the text begins with it
  past_one : (s : List ℕ) (n : ℕ) → IsUtf8 s → FindsPrefixBy p s (Some n) → IsPastOne p s (drop n s)
  past_one s n u found = record { c = found.0; member = found.1; cut = found.2.split; read = chars_past_char s (drop n s) found.0 u found.2.split }

  -- where none is found it does not
  begins_none : (s : List ℕ) → IsUtf8 s → FindsPrefixBy p s None → begins p (chars s) ≡ false
  begins_none s u none = at (chars s) (encodes-chars s u) (scalars-chars s u)
    where
      at : (cs : List ℕ) → encode_utf8_all cs ≡ s → all_scalars cs ≡ true → begins p cs ≡ false
      at [] e k = refl
      at (c ∷ cs) e k = none c (encode_utf8_all cs) (and_parts _ _ k).0 (sym e)

  -- what `starts_with` answers
  pub starts-begins : (s : List ℕ) (b : Bool) → IsUtf8 s → MatchBool b (HasPrefixMatch R s) (R s None) → b ≡ begins p (chars s)
  starts-begins s true u h =
      let one = past_one s h.0 u (finds s (Some h.0) h.1) in
      sym (ap (begins p) one.read ∙ one.member)
  starts-begins s false u h = sym (begins_none s u (finds s None h))

  -- what `strip_prefix` leaves
  pub strip-begins : (s : List ℕ) (o : Option (Bor (List ℕ))) → IsUtf8 s → MatchOption o (R s None) (λ x. StripsPrefix R s x.now) →
      IsStripped p s o
  strip-begins s None u h = begins_none s u (finds s None h)
  strip-begins s (Some x) u h = subst (IsPastOne p s) (sym h.2) (past_one s h.0 u (finds s (Some h.0) h.1))

-- the same of a closure whose calls answer the set
module _ {F : Type 0} (g : Mut F (ℕ × Unit {0}) Bool) (f : F) (p : ℕ → Bool) where
  by_answers : Answers g f p → (s : List ℕ) (o : Option ℕ) → FindsFirst g f s o → FindsPrefixBy p s o
  by_answers answers s o found = found p (always_returns_same g (λ a b. b ≡ p a.0) f answers)

  pub starts-answers : (s : List ℕ) (b : Bool) → IsUtf8 s → MatchBool b (HasPrefixMatch (FindsFirst g f) s) (FindsFirst g f s None) → Answers g f p → b ≡ begins p (chars s)
  starts-answers s b u h answers = starts-begins p (FindsFirst g f) (by_answers answers) s b u h

  pub strip-answers : (s : List ℕ) (o : Option (Bor (List ℕ))) → IsUtf8 s → MatchOption o (FindsFirst g f s None) (λ x. StripsPrefix (FindsFirst g f) s x.now) → Answers g f p →
      IsStripped p s o
  strip-answers s o u h answers = strip-begins p (FindsFirst g f) (by_answers answers) s o u h

-- a list of characters finds what is one of them
abbrev pub FindsListed : List ℕ → List ℕ → Option ℕ → Type 0
FindsListed members s o = (k : ℕ → Bool) → ((c : ℕ) → is_one_of members c ≡ k c) → FindsPrefixBy k s o

-- so it finds what that set does
pub one_listed : (members s : List ℕ) (o : Option ℕ) → FindsListed members s o → FindsPrefixBy (is_one_of members) s o
one_listed members s o found = found (is_one_of members) (λ c. refl)

-- where no character was stripped the text stays
pub stripped_one : (p : ℕ → Bool) (s : Bor (List ℕ)) (o : Option (Bor (List ℕ))) → IsStripped p s.now o →
    (chars (unwrap_or o s).now ≡ after_one p (chars s.now)) × ((v : List ℕ) × (s.now ≡ v ++ (unwrap_or o s).now))
stripped_one p s None none = (stays (chars s.now) none, ([], refl))
  where
    stays : (cs : List ℕ) → begins p cs ≡ false → cs ≡ after_one p cs
    stays [] e = refl
    stays (c ∷ cs) e = rw e refl
stripped_one p s (Some x) h = (sym (ap (after_one p) h.read ∙ rw h.member refl), (encode_utf8 h.c, h.cut))

-- a character that was stripped is the one that was asked for
pub stripped_char : (c : ℕ) (s : List ℕ) (o : Option (Bor (List ℕ))) → IsStripped (λ d. d == c) s o →
    MatchOption o (begins (λ d. d == c) (chars s) ≡ false) (λ x. chars s ≡ c ∷ chars x.now)
stripped_char c s None h = h
stripped_char c s (Some x) h = h.read ∙ ap (λ d. d ∷ chars x.now) (eqb-true h.c c h.member)

-- no character passes a test: by parts, and as one question
none_pass : (p : ℕ → Bool) (cs : List ℕ) → NonePass p cs → list_any p cs ≡ false
none_pass p [] h = refl
none_pass p (c ∷ cs) h = rw h.0 (none_pass p cs h.1)

pass_none : (p : ℕ → Bool) (cs : List ℕ) → list_any p cs ≡ false → NonePass p cs
pass_none p [] e = tt
pass_none p (c ∷ cs) e = let parts = or_parts (p c) (list_any p cs) e in (parts.0, pass_none p cs parts.1)

-- what `contains` answers of an ASCII character
pub contains-list_any : (c : ℕ) (s : List ℕ) (b : Bool) → c < 128 → IsUtf8 s → MatchBool b (HasMatch (FindsChar c) s) (FindsChar c s None) →
    b ≡ list_any (λ d. d == c) (chars s)
contains-list_any c s false small u (cs, e, none) = sym (ap (list_any (λ d. d == c)) (sym (chars_from_encodes cs s u e)) ∙ none_pass (λ d. d == c) cs none)
contains-list_any c s true small u h = at (list_any (λ d. d == c) (chars s)) refl
  where
    at : (t : Bool) → list_any (λ d. d == c) (chars s) ≡ t → true ≡ t
    at true e = refl
    at false e =
        let place = (contains_char c s true h small).0 refl in
        let none : NoCharPasses (λ d. d == c) s = (chars s, encodes-chars s u, pass_none (λ d. d == c) (chars s) e) in
        sym (eq-eqb _ c place.2) ∙ NoCharPasses-byte (λ d. d == c) s place.0 none place.1 (omega (arith, place.2, small))

-- a byte stands first or not
pub begins_byte : (x : ℕ) (bs : List ℕ) (b : Bool) → Decides b (get_or bs 0 0 ≡ x) → 0 < x → b ≡ begins (λ d. d == x) bs
begins_byte x [] b h some = false_from_ne_true b (λ t. absurd (omega (arith, h.0 t, some)))
begins_byte x (d ∷ ds) b h some = by b h
  where
    by : (b : Bool) → Decides b (d ≡ x) → b ≡ (d == x)
    by true h = sym (eq-eqb d x (h.0 refl))
    by false h = sym (false_from_ne_true (d == x) (λ t. true≢false (sym (h.1 (eqb-true d x t)))))
