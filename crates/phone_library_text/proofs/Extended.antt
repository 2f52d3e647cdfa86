-- Where an extension stands: its number sign and its digits are those at the text's end.
use Rattle.std.proofs.Common.{◌≡◌, ℕ, ◌==◌, ◌≤◌, Bool, true, false, not, List, [], ◌∷◌, ◌++◌, length, length-append, take, drop, append_assoc, append-nil, take-append-drop, refl, ap, sym, subst, ◌∙◌, true≢false, arith}
use Rattle.std.proofs.lemmas.Bool.{and_parts, not_from_true}
use Rattle.std.proofs.lemmas.List.{length-take, nil_from_length}
use Rattle.std.specs.List.{list_all}
use Rattle.phone_chars.specs.Characters.{is_nd}
use Rattle.phone_parts.specs.Longest.{IsWithoutLongest}
use Rattle.phone_parts.specs.Suffixes.{IsOptional, is_sign}
use Rattle.phone_parts.specs.Texts.{ends}
use Rattle.phone_parts.proofs.Ends.{ends-append, ends-append_run}
use Rattle.phone_parts.proofs.Endings.{nd_sign}
use Rattle.phone_parts.proofs.Longest.{cuts_meet, end_same}
use Rattle.phone_library_text.specs.Announcements.{Announces}
use Rattle.phone_library_text.specs.Extensions.{HasLongestExtension, HasNoExtension, IsExtension}
use Rattle.phone_library_text.specs.Scans.{IsSignless, allowed, announces}
use Rattle.phone_library_text.proofs.Announced.{announced_of, announces_of}
use Rattle.phone_library_text.proofs.NoDigits.{all_others, no_digit, not_nothing}

-- no text ends in characters of two sets apart
ends_apart : (p q : ℕ → Bool) → ((c : ℕ) → q c ≡ true → p c ≡ false) → (xs : List ℕ) → ends p xs ≡ true → ends q xs ≡ true → ⊥
ends_apart p q apart [] e f = true≢false (sym e)
ends_apart p q apart (x ∷ []) e f = true≢false (sym e ∙ apart x f)
ends_apart p q apart (x ∷ y ∷ xs) e f = ends_apart p q apart (y ∷ xs) e f

-- a run ends in its set
run_ends : (p : ℕ → Bool) (run : List ℕ) → 1 ≤ length run → list_all p run ≡ true → ends p run ≡ true
run_ends p [] some all = absurd (omega (arith, some))
run_ends p (x ∷ run) some all =
    let parts = and_parts (p x) (list_all p run) all in ends-append_run p (x ∷ []) run parts.0 parts.1

append_ends : (p : ℕ → Bool) (before run : List ℕ) → 1 ≤ length run → list_all p run ≡ true → ends p (before ++ run) ≡ true
append_ends p before run some all =
    ends-append p before run (λ e. omega (arith, some, ap length e)) ∙ run_ends p run some all

-- of two cuts of one text, where the first front ends apart from the second end, the second front isn't shorter
stops_apart : (p q : ℕ → Bool) → ((c : ℕ) → q c ≡ true → p c ≡ false) → (a x b y : List ℕ) → a ++ x ≡ b ++ y → ends p a ≡ true → list_all q y ≡ true →
    length b ≤ length a → (a ≡ b) × (x ≡ y)
stops_apart p q apart a x b y e last all le =
    let m = cuts_meet a x b y e le in at m.0 m.1 m.2
  where
    at : (m : List ℕ) → a ≡ b ++ m → y ≡ m ++ x → (a ≡ b) × (x ≡ y)
    at [] f g = (f ∙ append-nil b, sym g)
    at (z ∷ m) f g =
        let there : list_all q (z ∷ m) ≡ true = front_all (z ∷ m) x (ap (list_all q) (sym g) ∙ all) in
        absurd (ends_apart p q apart a last (ap (ends q) f ∙ append_ends q b (z ∷ m) (omega arith) there))
      where
        front_all : (u v : List ℕ) → list_all q (u ++ v) ≡ true → list_all q u ≡ true
        front_all [] v h = refl
        front_all (c ∷ u) v h = let parts = and_parts (q c) (list_all q (u ++ v)) h in rw parts.0 (front_all u v parts.1)

-- an optional character that is there is one
one_of : (p : ℕ → Bool) (t : List ℕ) → IsOptional p t → 1 ≤ length t → (length t ≡ 1) × (list_all p t ≡ true)
one_of p t h some = (omega (arith, some, h.few), h.only)

-- the text: what stands before its digits, these, and perhaps a number sign
module _ (t signless head : List ℕ) (signed : Bool) (s : IsSignless t signless signed) (d : IsWithoutLongest (λ w. list_all is_nd w ≡ true) signless head) where
  whole : t ≡ head ++ (d.end ++ s.sign)
  whole = s.whole ∙ ap (λ r. r ++ s.sign) d.whole ∙ append_assoc head d.end s.sign

  -- where there is a number sign the text ends in one
  sign_ends : (before sign : List ℕ) → t ≡ before ++ sign → IsOptional is_sign sign → 1 ≤ length sign → ends is_sign t ≡ true
  sign_ends before sign cut h some = ap (ends is_sign) cut ∙ append_ends is_sign before sign some h.only

  -- what stands before the number sign ends in a digit
  module _ (before w e : List ℕ) (cut : t ≡ before ++ w) (h : IsExtension w e) where
    abbrev front : List ℕ
    front = (before ++ h.announcement) ++ e

    parts : t ≡ front ++ h.sign
    parts = cut ∙ ap (λ r. before ++ r) h.whole ∙ sym (append_assoc before h.announcement (e ++ h.sign)) ∙ sym (append_assoc (before ++ h.announcement) e h.sign)

    front_ends : ends is_nd front ≡ true
    front_ends = append_ends is_nd (before ++ h.announcement) e h.some_digits h.digits

    same_size : length h.sign ≡ length s.sign
    same_size = at h.sign s.sign refl refl
      where
        at : (x y : List ℕ) → h.sign ≡ x → s.sign ≡ y → length h.sign ≡ length s.sign
        at [] [] f g = ap length f ∙ sym (ap length g)
        at (a ∷ x) (b ∷ y) f g = omega (arith, ap length f, ap length g, h.signs.few, s.signs.few)
        at [] (b ∷ y) f g =
            let digit : ends is_nd t ≡ true = ap (ends is_nd) (parts ∙ ap (λ r. front ++ r) f ∙ append-nil front) ∙ front_ends in
            absurd (ends_apart is_nd is_sign nd_sign t digit (sign_ends signless s.sign s.whole s.signs (omega (arith, ap length g))))
        at (a ∷ x) [] f g =
            let unsigned : signed ≡ false = s.told ∙ ap (λ r. not (length r == 0)) g in
            absurd (true≢false (sym (sign_ends front h.sign parts h.signs (omega (arith, ap length f))) ∙ s.none_left unsigned))

    same_front : signless ≡ front
    same_front =
        let sizes : length signless ≡ length front =
        omega (arith, same_size, ap length (sym s.whole ∙ parts), length-append signless s.sign, length-append front h.sign) in
        let m = cuts_meet signless s.sign front h.sign (sym s.whole ∙ parts) (omega (arith, sizes)) in
        let nil : m.0 ≡ [] = nil_from_length m.0 (omega (arith, sizes, ap length m.1, length-append front m.0)) in
        m.1 ∙ ap (λ r. front ++ r) nil ∙ append-nil front

    pub same_sign : s.sign ≡ h.sign
    same_sign = end_same signless s.sign front h.sign (sym s.whole ∙ parts) (ap length same_front)

    others : list_all (λ c. not (is_nd c)) h.announcement ≡ true
    others = all_others h.announcement (no_digit h.announcement (length e) _ h.announced)

    some_others : 1 ≤ length h.announcement
    some_others = at h.announcement refl
      where
        at : (a : List ℕ) → h.announcement ≡ a → 1 ≤ length h.announcement
        at [] f = absurd (not_nothing (length e) _ (subst (λ a. Announces a (length e) (not (length h.sign == 0))) f h.announced))
        at (x ∷ a) f = omega (arith, ap length f)

    same_cut : (before ++ h.announcement ≡ head) × (e ≡ d.end)
    same_cut = stops_apart (λ c. not (is_nd c)) is_nd (λ c f. not_from_true (is_nd c) f) (before ++ h.announcement) e head d.end (sym same_front ∙ d.whole)
        (append_ends (λ c. not (is_nd c)) before h.announcement some_others others) d.kind
        (d.longest (before ++ h.announcement) e same_front h.digits)

    pub same_head : before ++ h.announcement ≡ head
    same_head = same_cut.0

    pub same_digits : e ≡ d.end
    same_digits = same_cut.1

    -- so its announcement is one at the end of the head
    pub announced_there : announces (allowed (length d.end) signed) h.announcement ≡ true
    announced_there =
        let told : not (length h.sign == 0) ≡ signed = ap (λ r. not (length r == 0)) (sym same_sign) ∙ sym s.told in
        subst (λ b. announces (allowed (length d.end) b) h.announcement ≡ true) told
        (subst (λ r. announces (allowed (length r) (not (length h.sign == 0))) h.announcement ≡ true) same_digits
        (announces_of h.announcement (length e) (not (length h.sign == 0)) h.announced))

  -- without digits there is no extension
  pub none_without_digits : d.end ≡ [] → HasNoExtension t
  none_without_digits none k e h =
      let same = same_digits (take k t) (drop k t) e (sym (take-append-drop k t)) h in
      omega (arith, h.some_digits, ap length (same ∙ none))

  -- nor where no end of the head is an announcement
  pub none_unannounced : ((before other : List ℕ) → head ≡ before ++ other → ¬ (announces (allowed (length d.end) signed) other ≡ true)) → HasNoExtension t
  none_unannounced none k e h =
      let cut = sym (take-append-drop k t) in
      none (take k t) h.announcement (sym (same_head (take k t) (drop k t) e cut h)) (announced_there (take k t) (drop k t) e cut h)

  -- and its longest end that is one makes the longest extension
  pub longest_announced : (left : List ℕ) → 1 ≤ length d.end →
      IsWithoutLongest (λ w. announces (allowed (length d.end) signed) w ≡ true) head left → HasLongestExtension t left d.end
  longest_announced left some w = record {
    extension = w.end ++ (d.end ++ s.sign);
    whole = whole ∙ ap (λ r. r ++ (d.end ++ s.sign)) w.whole ∙ append_assoc left w.end (d.end ++ s.sign);
    is_extension = record {
      announcement = w.end;
      sign = s.sign;
      whole = refl;
      announced = subst (λ b. Announces w.end (length d.end) b) s.told (announced_of w.end (length d.end) signed w.kind);
      digits = d.kind;
      some_digits = some;
      signs = s.signs;
    };
    longest = λ k e less h.
        let cut = sym (take-append-drop k t) in
        let le = w.longest (take k t) h.announcement (sym (same_head (take k t) (drop k t) e cut h)) (announced_there (take k t) (drop k t) e cut h) in
        omega (arith, less, le, length-take k t);
  }
