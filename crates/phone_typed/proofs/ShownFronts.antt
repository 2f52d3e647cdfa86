-- How the front of a text is compared with keys, byte by byte.
use Rattle.std.proofs.Common.{◌≡◌, ℕ, suc, ◌+◌, ◌-◌, ◌<◌, ◌≤◌, ◌==◌, ◌&&◌, ◌||◌, Bool, true, false, cond, List, ◌∷◌, ◌++◌, drop, take, length, filter, get_or, None, Some, IsUtf8, IsCharBoundary, refl, ap, ap₂, sym, subst, ◌∙◌, arith, true≢false}
use Rattle.std.proofs.Math.Seq.{drop-cons, drop-length}
use Rattle.std.proofs.lemmas.Str.{IsCharBoundary-start}
use Rattle.std.specs.List.{list_all}
use Rattle.std.specs.Str.{bytes_eq}
use Rattle.phone_typed.specs.Keys.{is_key, is_mark, passed, shows, up_to_key}
use Rattle.phone_typed.specs.Typed.{if_shows}
use Rattle.phone_typed.proofs.KeyPlaces.{cut_after_key, past, up_to_key-nil, walked}

-- a byte may stand in a text that shows keys
abbrev may_stand : ℕ → Bool
may_stand c = is_key c || is_mark c

no_and : (b : Bool) → (b && false) ≡ false
no_and true = refl
no_and false = refl

module _ (c k : ℕ) (ks t : List ℕ) where
  abbrev after : Bool → Bool → Bool
  after key mark = bytes_eq (cond key (c ∷ filter is_key t) (filter is_key t)) (k ∷ ks) && ((key || mark) && list_all may_stand t)

  shows-key : is_key c ≡ true → (c == k) ≡ true → shows (k ∷ ks) (c ∷ t) ≡ shows ks t
  shows-key key same = ap (λ b. after b (is_mark c)) key ∙ ap (λ b. (b && bytes_eq (filter is_key t) ks) && list_all may_stand t) same

  shows-other : is_key c ≡ true → (c == k) ≡ false → shows (k ∷ ks) (c ∷ t) ≡ false
  shows-other key other = ap (λ b. after b (is_mark c)) key ∙ ap (λ b. (b && bytes_eq (filter is_key t) ks) && list_all may_stand t) other

  shows-mark : is_key c ≡ false → is_mark c ≡ true → shows (k ∷ ks) (c ∷ t) ≡ shows (k ∷ ks) t
  shows-mark other mark = ap₂ after other mark

  shows-none : is_key c ≡ false → is_mark c ≡ false → shows (k ∷ ks) (c ∷ t) ≡ false
  shows-none other none = ap₂ after other none ∙ no_and (bytes_eq (filter is_key t) (k ∷ ks))

-- so many bytes of a text were passed, and so many keys in them; none of the keys is lacking there
abbrev pub IsPassed : List ℕ → List ℕ → ℕ → ℕ → Type 0
IsPassed keys text n at =
    (up_to_key (length keys) text ≡ take at text ++ up_to_key (length keys - n) (drop at text))
    × (shows keys (up_to_key (length keys) text) ≡ shows (drop n keys) (up_to_key (length keys - n) (drop at text)))
    × (n ≤ length keys)
    × (n ≡ length keys → IsCharBoundary text at)

-- at first nothing was passed
pub passed-nothing : (keys text : List ℕ) → IsUtf8 text → IsPassed keys text 0 0
passed-nothing keys text utf8 =
    let all : length keys ≡ length keys - 0 = omega arith in
    (ap (λ k. up_to_key k text) all, ap (λ k. shows keys (up_to_key k text)) all, omega arith, λ _. IsCharBoundary-start text utf8)

if-shows-not : (keys text : List ℕ) → shows keys text ≡ false → None ≡ if_shows keys text
if-shows-not keys text h = sym (ap (λ b. cond b (Some text) None) h)

module _ (keys text : List ℕ) (n at : ℕ) where
  abbrev key : ℕ
  key = get_or keys n 0

  abbrev byte : ℕ
  byte = get_or text at 0

  abbrev left : ℕ
  left = length keys - n

  wanted : n < length keys → drop n keys ≡ key ∷ drop (n + 1) keys
  wanted some = let next : suc n ≡ n + 1 = omega arith in drop-cons keys n 0 some ∙ ap (λ k. key ∷ drop k keys) next

  module _ (some : n < length keys) (less : at < length text) (was : IsPassed keys text n at) where
    is_left : ¬ (left ≡ 0)
    is_left e = omega (arith, some, e)

    on_key : IsUtf8 text → is_key byte ≡ true → (byte == key) ≡ true → IsPassed keys text (n + 1) (at + 1)
    on_key utf8 is same =
        let fewer : is_key byte ≡ true → length keys - (n + 1) ≡ left - 1 = λ _. omega (arith, some) in
        let other : is_key byte ≡ false → length keys - (n + 1) ≡ left = λ o. absurd (true≢false (sym is ∙ o)) in (
          walked text at less (length keys) left (length keys - (n + 1)) is_left fewer other was.0,
          was.1 ∙ ap₂ shows (wanted some) (past text at less left (length keys - (n + 1)) is_left fewer other)
              ∙ shows-key byte key (drop (n + 1) keys) (up_to_key (length keys - (n + 1)) (drop (at + 1) text)) is same,
          omega (arith, some),
          λ _. cut_after_key text at less utf8 is,
        )

    on_mark : is_key byte ≡ false → is_mark byte ≡ true → IsPassed keys text n (at + 1)
    on_mark is mark =
        let fewer : is_key byte ≡ true → left ≡ left - 1 = λ k. absurd (true≢false (sym k ∙ is)) in
        let other : is_key byte ≡ false → left ≡ left = λ _. refl in (
          walked text at less (length keys) left left is_left fewer other was.0,
          was.1 ∙ ap₂ shows (wanted some) (past text at less left left is_left fewer other)
              ∙ shows-mark byte key (drop (n + 1) keys) (up_to_key left (drop (at + 1) text)) is mark
              ∙ ap (λ ks. shows ks (up_to_key left (drop (at + 1) text))) (sym (wanted some)),
          was.2,
          λ e. absurd (is_left (let none : left ≡ 0 = omega (arith, e) in none)),
        )

    pub passed_on : IsUtf8 text → (next : ℕ) → passed keys n byte ≡ Some next → IsPassed keys text next (at + 1)
    passed_on utf8 next h = by_key (is_key byte) refl h
      where
        by_same : (b : Bool) → (byte == key) ≡ b → is_key byte ≡ true → cond b (Some (n + 1)) None ≡ Some next → IsPassed keys text next (at + 1)
        by_same true same is e = let more : n + 1 ≡ next = cc in subst (λ m. IsPassed keys text m (at + 1)) more (on_key utf8 is same)
        by_same false same is e = absurd (cc)

        by_mark : (b : Bool) → is_mark byte ≡ b → is_key byte ≡ false → cond b (Some n) None ≡ Some next → IsPassed keys text next (at + 1)
        by_mark true mark is e = let more : n ≡ next = cc in subst (λ m. IsPassed keys text m (at + 1)) more (on_mark is mark)
        by_mark false mark is e = absurd (cc)

        by_key : (b : Bool) → is_key byte ≡ b → cond b (cond (byte == key) (Some (n + 1)) None) (cond (is_mark byte) (Some n) None) ≡ Some next →
            IsPassed keys text next (at + 1)
        by_key true is e = by_same (byte == key) refl is e
        by_key false is e = by_mark (is_mark byte) refl is e

    pub stopped : passed keys n byte ≡ None → None ≡ if_shows keys (up_to_key (length keys) text)
    stopped h = if-shows-not keys (up_to_key (length keys) text) (was.1 ∙ by_key (is_key byte) refl h)
      where
        by_same : (b : Bool) → (byte == key) ≡ b → is_key byte ≡ true → cond b (Some (n + 1)) None ≡ None → shows (drop n keys) (up_to_key left (drop at text)) ≡ false
        by_same true same is e = absurd (cc)
        by_same false same is e =
            let fewer : is_key byte ≡ true → left - 1 ≡ left - 1 = λ _. refl in
            let other : is_key byte ≡ false → left - 1 ≡ left = λ o. absurd (true≢false (sym is ∙ o)) in
            ap₂ shows (wanted some) (past text at less left (left - 1) is_left fewer other)
            ∙ shows-other byte key (drop (n + 1) keys) (up_to_key (left - 1) (drop (at + 1) text)) is same

        by_mark : (b : Bool) → is_mark byte ≡ b → is_key byte ≡ false → cond b (Some n) None ≡ None → shows (drop n keys) (up_to_key left (drop at text)) ≡ false
        by_mark true mark is e = absurd (cc)
        by_mark false mark is e =
            let fewer : is_key byte ≡ true → left ≡ left - 1 = λ k. absurd (true≢false (sym k ∙ is)) in
            let other : is_key byte ≡ false → left ≡ left = λ _. refl in
            ap₂ shows (wanted some) (past text at less left left is_left fewer other)
            ∙ shows-none byte key (drop (n + 1) keys) (up_to_key left (drop (at + 1) text)) is mark

        by_key : (b : Bool) → is_key byte ≡ b → cond b (cond (byte == key) (Some (n + 1)) None) (cond (is_mark byte) (Some n) None) ≡ None →
            shows (drop n keys) (up_to_key left (drop at text)) ≡ false
        by_key true is e = by_same (byte == key) refl is e
        by_key false is e = by_mark (is_mark byte) refl is e

  -- at the end of the text, with keys left, it doesn't show them
  pub keys_left : n < length keys → at ≡ length text → IsPassed keys text n at → None ≡ if_shows keys (up_to_key (length keys) text)
  keys_left some end was = if-shows-not keys (up_to_key (length keys) text)
      (was.1 ∙ ap₂ (λ ks t. shows ks (up_to_key left t)) (wanted some) (ap (λ k. drop k text) end ∙ drop-length text)
      ∙ ap (λ t. shows (key ∷ drop (n + 1) keys) t) (up_to_key-nil left))
