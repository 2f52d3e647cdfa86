-- Where a character of a set can stand in a text whose front or end has none.
use Rattle.std.proofs.Common.{◌≡◌, ℕ, ◌+◌, ◌-◌, ◌≤◌, ◌<◌, Bool, true, false, List, [], ◌∷◌}
use Rattle.std.proofs.Common.{◌++◌, length, take, drop, slice_range, IsCharBoundary, IsUtf8}
use Rattle.std.proofs.Common.{append_assoc, refl, ap, sym, ◌∙◌, arith, true≢false}
use Rattle.std.proofs.Common.{length-append}
use Rattle.std.proofs.lemmas.Bool.{or_left, or_parts, or_right}
use Rattle.std.proofs.lemmas.List.{drop-take, length-drop, length-take, take-append-drop, take-take}
use Rattle.std.proofs.lemmas.Str.{IsUtf8-drop, IsUtf8-take, chars-append, encodes-append}
use Rattle.std.proofs.lemmas.Str.{encodes-chars}
use Rattle.std.specs.List.{list_any}
use Rattle.std.specs.Str.{chars, encode_utf8_all}
use Rattle.phone_parts.proofs.Cores.{ends-push}
use Rattle.phone_parts.specs.Texts.{begins, ends}

take_on : (t : List ℕ) (i n : ℕ) → take (i + n) t ≡ take i t ++ take n (drop i t)
take_on t i n =
    sym (take-append-drop i (take (i + n) t)) ∙ ap (λ s. s ++ drop i (take (i + n) t)) (take-take i
    (i + n) t (omega arith))
    ∙ ap (λ s. take i t ++ s) (drop-take i n t)

module _ (p : ℕ → Bool) where
  any_at : (xs ys : List ℕ) (o : ℕ) → p o ≡ true → list_any p (xs ++ o ∷ ys) ≡ true
  any_at [] ys o e = or_left (p o) (list_any p ys) e
  any_at (x ∷ xs) ys o e = or_right (p x) (list_any p (xs ++ o ∷ ys)) (any_at xs ys o e)

  -- one of a set stands behind a front that has none
  front_in : (a r b s : List ℕ) (o : ℕ) → a ++ r ≡ b ++ o ∷ s → list_any p a ≡ false → p o ≡ true →
      (c : List ℕ) × (b ≡ a ++ c)
  front_in [] r b s o e none is = (b, refl)
  front_in (x ∷ a) r [] s o e none is =
      let same : x ≡ o = cc in
      absurd (true≢false (sym (ap p same ∙ is) ∙ (or_parts (p x) (list_any p a) none).0))
  front_in (x ∷ a) r (y ∷ b) s o e none is =
      let same : x ≡ y = cc in
      let rest : a ++ r ≡ b ++ o ∷ s = cc in
      let found = front_in a r b s o rest (or_parts (p x) (list_any p a) none).1 is in
      (found.0, ap (λ z. z ∷ b) (sym same) ∙ ap (λ zs. x ∷ zs) found.1)

  -- and before an end that has none
  end_in : (a r b s : List ℕ) (o : ℕ) → a ++ r ≡ b ++ o ∷ s → list_any p r ≡ false → p o ≡ true →
      (c : List ℕ) × (s ≡ c ++ r)
  end_in [] r b s o e none is = absurd (true≢false (sym (any_at b s o is)
      ∙ sym (ap (list_any p) e) ∙ none))
  end_in (x ∷ a) r [] s o e none is = let rest : a ++ r ≡ s = cc in (a, sym rest)
  end_in (x ∷ a) r (y ∷ b) s o e none is = let rest : a ++ r ≡ b ++ o ∷ s = cc in
      end_in a r b s o rest none is

  first_of : (t : List ℕ) → begins p t ≡ true → (o : ℕ) × (s : List ℕ) × (t ≡ o ∷ s) × (p o ≡ true)
  first_of [] e = absurd (true≢false (sym e))
  first_of (o ∷ s) e = (o, s, refl, e)

  pub last_of : (t : List ℕ) → ends p t ≡ true → (o : ℕ) × (s : List ℕ) × (t ≡ s ++ o ∷ []) × (p o ≡
      true)
  last_of [] e = absurd (true≢false (sym e))
  last_of (o ∷ []) e = (o, [], refl, e)
  last_of (c ∷ d ∷ cs) e = let last = last_of (d ∷ cs) e in (
    last.0,
    c ∷ last.1,
    ap (λ s. c ∷ s)
        last.2,
    last.3,
  )

  pub ends-append : (s t : List ℕ) → ends p t ≡ true → ends p (s ++ t) ≡ true
  ends-append s t e =
      let last = last_of t e in
      ap (λ u. ends p (s ++ u)) last.2 ∙ ap (ends p) (sym (append_assoc s last.1 (last.0 ∷ [])))
      ∙ ends-push p (s ++ last.1) last.0 ∙ last.3

  -- a place at which one of the set stands lies behind a front that has none
  pub starts_behind : (text front rest : List ℕ) (i : ℕ) → text ≡ front ++ rest → IsUtf8 front →
      IsUtf8 (take i text) →
      list_any p (chars front) ≡ false → begins p (chars (drop i text)) ≡ true → length front ≤ i
  starts_behind text front rest i whole u v none e =
      let first = first_of (chars (drop i text)) e in
      let read : chars front ++ chars rest ≡ chars (take i text) ++ first.0 ∷ first.1 =
      sym (chars-append front rest u) ∙ sym (ap chars whole)
      ∙ ap chars (sym (take-append-drop i text))
      ∙ chars-append (take i text) (drop i text) v ∙ ap (λ t. chars (take i text) ++ t) first.2
      in
      let cut = front_in (chars front) (chars rest) (chars (take i text)) first.1 first.0 read none
      first.3 in
      let bytes : take i text ≡ front ++ encode_utf8_all cut.0 =
      sym (encodes-chars (take i text) v) ∙ ap encode_utf8_all cut.1
      ∙ encodes-append (chars front) cut.0
      ∙ ap (λ t. t ++ encode_utf8_all cut.0) (encodes-chars front u) in
      let long = ap length bytes ∙ length-append front (encode_utf8_all cut.0) in
      let few = length-take i text in
      omega (arith, long, few)

  -- a place before which one of the set stands lies before an end that has none
  pub ends_before : (text front rest : List ℕ) (i : ℕ) → text ≡ front ++ rest → IsUtf8 front →
      IsUtf8 rest → IsUtf8 (take i text) →
      IsUtf8 (drop i text) → i ≤ length text →
      list_any p (chars rest) ≡ false → ends p (chars (take i text)) ≡ true → i ≤ length front
  ends_before text front rest i whole u w v x within none e =
      let last = last_of (chars (take i text)) e in
      let read : chars front ++ chars rest ≡ last.1 ++ last.0 ∷ chars (drop i text) =
      sym (chars-append front rest u) ∙ sym (ap chars whole)
      ∙ ap chars (sym (take-append-drop i text))
      ∙ chars-append (take i text) (drop i text) v ∙ ap (λ t. t ++ chars (drop i text)) last.2
      ∙ append_assoc last.1 (last.0 ∷ []) (chars (drop i text)) in
      let cut = end_in (chars front) (chars rest) last.1 (chars (drop i text)) last.0 read none
      last.3 in
      let bytes : drop i text ≡ encode_utf8_all cut.0 ++ rest =
      sym (encodes-chars (drop i text) x) ∙ ap encode_utf8_all cut.1
      ∙ encodes-append cut.0 (chars rest)
      ∙ ap (λ t. encode_utf8_all cut.0 ++ t) (encodes-chars rest w) in
      let long = ap length bytes ∙ length-append (encode_utf8_all cut.0) rest in
      let few = length-drop i text in
      let all = ap length whole ∙ length-append front rest in
      omega (arith, long, few, all, within)

  -- the same of a piece from i to j
  pub piece_before : (text front rest : List ℕ) (i j : ℕ) → text ≡ front ++ rest → IsUtf8 front →
      IsUtf8 rest → IsUtf8 text → i < j →
      IsCharBoundary text i → IsCharBoundary text j → list_any p (chars rest) ≡ false →
      ends p (chars (slice_range text i j)) ≡ true → j ≤ length front
  piece_before text front rest i j whole u w t some from to none e =
      let before = IsUtf8-take text i t from in
      let piece = slice_range text i j in
      let cut = ap (λ k. take k text) (omega (arith, some)) ∙ take_on text i (j - i) in
      let read : chars (take j text) ≡ chars (take i text) ++ chars piece = ap chars cut
      ∙ chars-append (take i text) piece before in
      ends_before text front rest j whole u w (IsUtf8-take text j t to) (IsUtf8-drop text j t to)
      to.0 none
      (ap (ends p) read ∙ ends-append (chars (take i text)) (chars piece) e)
