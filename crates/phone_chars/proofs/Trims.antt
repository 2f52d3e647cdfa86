-- What is left of a text once each character of a set is cut off its front, or off its end.
use Rattle.std.proofs.Common.{◌≡◌, ◌⊎◌, inl, inr, ℕ, ◌+◌, ◌-◌, ◌≤◌, Bool, true, false, nat_lt, List, [], ◌∷◌, ◌++◌, length, get_or, drop, take, Option, Some, None, IfSome, IsUtf8, encode_utf8_all, append_assoc, append-nil, length-append, take-append-drop, drop_of_length-le, get_or-append-add, refl, ap, sym, subst, ◌∙◌, ap₂, arith}
use Rattle.std.proofs.lemmas.Bool.{and_parts, cond_both, ltb-true}
use Rattle.std.proofs.lemmas.Fn.{always_returns_same}
use Rattle.std.proofs.lemmas.Str.{IsUtf8-take, IsUtf8-past_char, chars-append, chars_past_char, encodes-append, encodes-chars, scalars-chars, len_utf8_bounds}
use Rattle.std.proofs.Math.Seq.{take-append_seam}
use Rattle.std.specs.Char.{encode_utf8}
use Rattle.std.specs.Fn.{Called, AlwaysReturns}
use Rattle.std.specs.List.{list_all}
use Rattle.std.specs.Str.{chars, all_scalars}
use Rattle.std.specs.Str.Pattern.{CutsPrefixes, CutsSuffixes, IsTrimStartMatches, IsTrimEndMatches, FindsPrefixBy, FindsSuffixBy}
use denote.Param.Members.{Mut}
use Rattle.phone_chars.proofs.Runs.{IsUtf8-after, chars-encode_utf8}
use Rattle.phone_chars.specs.Cuts.{after_front}

-- the first byte of a character continues no other
lead-encode_utf8 : (c : ℕ) → 128 ≤ get_or (encode_utf8 c) 0 0 → 192 ≤ get_or (encode_utf8 c) 0 0
unfolding encode_utf8
lead-encode_utf8 c = cond_both (nat_lt c 128) _ _ Leads (λ t h. absurd (omega (arith, ltb-true c 128 t, h)))
    (λ e. cond_both (nat_lt c 2048) _ _ Leads (λ t h. omega arith) (λ f. cond_both (nat_lt c 65536) _ _ Leads (λ t h. omega arith) (λ g h. omega arith)))
  where
    Leads : List ℕ → Type 0
    Leads bs = 128 ≤ get_or bs 0 0 → 192 ≤ get_or bs 0 0

-- what stands before a character in a text is text
IsUtf8-before : (r : List ℕ) (c : ℕ) → IsUtf8 (r ++ encode_utf8 c) → IsUtf8 r
IsUtf8-before r c u =
    let at : get_or (r ++ encode_utf8 c) (length r) 0 ≡ get_or (encode_utf8 c) 0 0 =
    ap (λ n. get_or (r ++ encode_utf8 c) n 0) (let n : length r ≡ length r + 0 = omega arith in n) ∙ get_or-append-add r (encode_utf8 c) 0 0 in
    let fits : length r ≤ length (r ++ encode_utf8 c) = omega (arith, length-append r (encode_utf8 c)) in
    rw take-append_seam at (IsUtf8-take (r ++ encode_utf8 c) (length r) u (fits, λ l h. rw at (lead-encode_utf8 c (rw at at h))))

-- a pattern that finds the characters of a set at the front cuts off the longest front of them
module _ (p : ℕ → Bool) (R : List ℕ → Option ℕ → Type 0) (finds : (s : List ℕ) (o : Option ℕ) → R s o → FindsPrefixBy p s o) where
  -- r is a text, and s is r behind characters that don't change what follows the longest front
  record IsPeeled (s r : List ℕ) : Type 0 where
    pub peeled : List ℕ
    pub whole : s ≡ peeled ++ r
    pub text : IsUtf8 r
    pub same : after_front p (chars s) ≡ after_front p (chars r)

  -- one cut takes one character
  peel : (s m r : List ℕ) (n : ℕ) → IsPeeled s m → FindsPrefixBy p m (Some n) → r ≡ drop n m → IsPeeled s r
  peel s m r n h found e =
      let c = found.0 in
      let cut : m ≡ encode_utf8 c ++ r = found.2.split ∙ ap (λ t. encode_utf8 c ++ t) (sym e) in
      record {
        peeled = h.peeled ++ encode_utf8 c;
        whole = h.whole ∙ ap (λ t. h.peeled ++ t) cut ∙ sym (append_assoc h.peeled (encode_utf8 c) r);
        text = IsUtf8-past_char m r c h.text cut;
        same = h.same ∙ ap (after_front p) (chars_past_char m r c h.text cut) ∙ rw found.1 refl;
      }

  -- and so many cuts take many
  peels : (s : List ℕ) (ns : List ℕ) (r : List ℕ) → IsUtf8 s → CutsPrefixes R s ns r → IsPeeled s r
  peels s [] r u e = record { peeled = []; whole = sym e; text = subst IsUtf8 (sym e) u; same = ap (λ t. after_front p (chars t)) (sym e) }
  peels s (n ∷ ns) r u (m, cuts, found, e) = peel s m r n (peels s ns m u cuts) (finds m (Some n) found) e

  -- a text in whose front nothing is found begins with no character of the set
  unpeeled : (r : List ℕ) (o : Option ℕ) → IsUtf8 r → IfSome o (λ n. n ≡ 0) → FindsPrefixBy p r o → after_front p (chars r) ≡ chars r
  unpeeled r None u e none = at (chars r) (encodes-chars r u) (scalars-chars r u)
    where
      at : (cs : List ℕ) → encode_utf8_all cs ≡ r → all_scalars cs ≡ true → after_front p cs ≡ cs
      at [] e s = refl
      at (c ∷ cs) e s = rw (none c (encode_utf8_all cs) (and_parts _ _ s).0 (sym e))
  unpeeled r (Some n) u e found = absurd (omega (arith, e, found.2.ends, len_utf8_bounds found.0))

  -- what is left is what follows the longest front
  pub after_front-trimmed : (s r : List ℕ) → IsUtf8 s → IsTrimStartMatches R s r → ((v : List ℕ) × (s ≡ v ++ r)) × (chars r ≡ after_front p (chars s))
  after_front-trimmed s r u h =
      let k = peels s h.0.0 r u h.0.1 in
      ((k.peeled, k.whole), sym (k.same ∙ unpeeled r h.1.0 k.text h.1.2 (finds r h.1.0 h.1.1)))

-- the text s without its longest end of characters of the set
pub record IsWithoutEnd (p : ℕ → Bool) (s r : List ℕ) : Type 0 where
  pub end : (v : List ℕ) × (s ≡ r ++ v)
  pub trailing : List ℕ
  pub whole : chars s ≡ chars r ++ trailing
  pub members : list_all p trailing ≡ true
  pub last : (chars r ≡ []) ⊎ ((cs : List ℕ) × (c : ℕ) × (chars r ≡ cs ++ c ∷ []) × (p c ≡ false))

-- a list is empty or has a last element
abbrev IsPushed : List ℕ → Type 0
IsPushed cs = (cs ≡ []) ⊎ ((ds : List ℕ) × (d : ℕ) × (cs ≡ ds ++ d ∷ []))

pushed : (cs : List ℕ) → IsPushed cs
pushed [] = inl refl
pushed (c ∷ cs) = at (pushed cs)
  where
    at : IsPushed cs → IsPushed (c ∷ cs)
    at (inl e) = inr ([], c, ap (λ t. c ∷ t) e)
    at (inr (ds, d, e)) = inr (c ∷ ds, d, ap (λ t. c ∷ t) e)

-- the last of a text's characters is a character
scalar_last : (cs : List ℕ) (c : ℕ) → all_scalars (cs ++ c ∷ []) ≡ true → all_scalars (c ∷ []) ≡ true
scalar_last [] c h = h
scalar_last (x ∷ cs) c h = scalar_last cs c (and_parts _ _ h).1

-- a pattern that finds the characters of a set at the end cuts off the longest end of them
module _ (p : ℕ → Bool) (R : List ℕ → Option ℕ → Type 0) (finds : (s : List ℕ) (o : Option ℕ) → R s o → FindsSuffixBy p s o) where
  -- s is r and then characters of the set
  record IsCutBack (s r : List ℕ) : Type 0 where
    pub end : List ℕ
    pub cut : s ≡ r ++ end
    pub text : IsUtf8 r
    pub trailing : List ℕ
    pub whole : chars s ≡ chars r ++ trailing
    pub members : list_all p trailing ≡ true

  -- one cut takes one character
  cut_back : (s m r : List ℕ) (n : ℕ) → IsCutBack s m → FindsSuffixBy p m (Some n) → r ≡ take (length m - n) m → IsCutBack s r
  cut_back s m r n h found e =
      let c = found.0 in
      let tail : drop (length m - n) m ≡ encode_utf8 c =
      found.2.split ∙ ap (λ t. encode_utf8 c ++ t) (drop_of_length-le m (omega arith)) ∙ append-nil _ in
      let cut : m ≡ r ++ encode_utf8 c = sym (take-append-drop (length m - n) m) ∙ ap₂ (λ a b. a ++ b) (sym e) tail in
      let text : IsUtf8 r = IsUtf8-before r c (subst IsUtf8 cut h.text) in
      let one : IsUtf8 (encode_utf8 c) = IsUtf8-after r (encode_utf8 c) (subst IsUtf8 cut h.text) text in
      let read : chars m ≡ chars r ++ c ∷ [] = ap chars cut ∙ chars-append r (encode_utf8 c) text ∙ ap (λ t. chars r ++ t) (chars-encode_utf8 c one) in
      record {
        end = encode_utf8 c ++ h.end;
        cut = h.cut ∙ ap (λ t. t ++ h.end) cut ∙ append_assoc r (encode_utf8 c) h.end;
        text = text;
        trailing = c ∷ h.trailing;
        whole = h.whole ∙ ap (λ t. t ++ h.trailing) read ∙ append_assoc (chars r) (c ∷ []) h.trailing;
        members = rw found.1 h.members;
      }

  -- and so many cuts take many
  cuts_back : (s : List ℕ) (ns : List ℕ) (r : List ℕ) → IsUtf8 s → CutsSuffixes R s ns r → IsCutBack s r
  cuts_back s [] r u e = record {
    end = [];
    cut = sym e ∙ sym (append-nil r);
    text = subst IsUtf8 (sym e) u;
    trailing = [];
    whole = ap chars (sym e) ∙ sym (append-nil (chars r));
    members = refl;
  }
  cuts_back s (n ∷ ns) r u (m, cuts, found, e) = cut_back s m r n (cuts_back s ns m u cuts) (finds m (Some n) found) e

  -- a text at whose end nothing is found ends in no character of the set
  uncut : (r : List ℕ) (o : Option ℕ) → IsUtf8 r → IfSome o (λ n. n ≡ 0) → FindsSuffixBy p r o →
      (chars r ≡ []) ⊎ ((cs : List ℕ) × (c : ℕ) × (chars r ≡ cs ++ c ∷ []) × (p c ≡ false))
  uncut r None u e none = at (pushed (chars r))
    where
      at : IsPushed (chars r) → (chars r ≡ []) ⊎ ((cs : List ℕ) × (c : ℕ) × (chars r ≡ cs ++ c ∷ []) × (p c ≡ false))
      at (inl e) = inl e
      at (inr (cs, c, e)) =
          let scalar = (and_parts _ _ (scalar_last cs c (subst (λ t. all_scalars t ≡ true) e (scalars-chars r u)))).0 in
          let ends : r ≡ encode_utf8_all cs ++ encode_utf8 c =
          sym (encodes-chars r u) ∙ ap encode_utf8_all e ∙ encodes-append cs (c ∷ []) ∙ ap (λ t. encode_utf8_all cs ++ t) (append-nil (encode_utf8 c)) in
          inr (cs, c, e, none c (encode_utf8_all cs) scalar ends)
  uncut r (Some n) u e found = absurd (omega (arith, e, found.2.ends, len_utf8_bounds found.0))

  -- what is left is the text without its longest end
  IsWithoutEnd-trimmed : (s r : List ℕ) → IsUtf8 s → IsTrimEndMatches R s r → IsWithoutEnd p s r
  IsWithoutEnd-trimmed s r u h =
      let k = cuts_back s h.0.0 r u h.0.1 in
      record {
        end = (k.end, k.cut);
        trailing = k.trailing;
        whole = k.whole;
        members = k.members;
        last = uncut r h.1.0 k.text h.1.2 (finds r h.1.0 h.1.1);
      }

-- what a closure finds whose calls answer a set
module _ {F : Type 0} (g : Mut F (ℕ × Unit {0}) Bool) (f : F) where
  -- at the front of a text
  abbrev pub FindsFirst : List ℕ → Option ℕ → Type 0
  FindsFirst s o = (k : ℕ → Bool) → AlwaysReturns g (λ a r. r ≡ k a.0) f → FindsPrefixBy k s o

  -- at its end
  abbrev pub FindsLast : List ℕ → Option ℕ → Type 0
  FindsLast s o = (k : ℕ → Bool) → AlwaysReturns g (λ a r. r ≡ k a.0) f → FindsSuffixBy k s o

  -- each call answers the set and leaves the closure as it is
  abbrev pub Answers : (ℕ → Bool) → Type 0
  Answers p = (a : ℕ × Unit {0}) (r : Bool) (f' : F) → Called g f a r f' → (r ≡ p a.0) × (f' ≡ f)

  -- `trim_start_matches` leaves an end of the text, which is what follows the longest front in the set
  pub trim_start-answers : (p : ℕ → Bool) (s r : List ℕ) → IsUtf8 s → IsTrimStartMatches FindsFirst s r → Answers p →
      ((v : List ℕ) × (s ≡ v ++ r)) × (chars r ≡ after_front p (chars s))
  trim_start-answers p s r u h answers =
      after_front-trimmed p FindsFirst (λ t o found. found p (always_returns_same g (λ a b. b ≡ p a.0) f answers)) s r u h

  -- `trim_end_matches` leaves a front of the text, which is all but its longest end in the set
  pub trim_end-answers : (p : ℕ → Bool) (s r : List ℕ) → IsUtf8 s → IsTrimEndMatches FindsLast s r → Answers p → IsWithoutEnd p s r
  trim_end-answers p s r u h answers =
      IsWithoutEnd-trimmed p FindsLast (λ t o found. found p (always_returns_same g (λ a b. b ≡ p a.0) f answers)) s r u h
