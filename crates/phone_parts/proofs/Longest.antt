-- Longest ends of texts, and ends of their ends.
use Rattle.std.proofs.Common.{◌≡◌, ⊎_elim, ℕ, ◌≤◌, ◌<◌, ◌-◌, Bool, true, false, List, [], ◌∷◌, ◌++◌, length, length-append, append_assoc, append-nil, IsUtf8, refl, ap, ap₂, sym, subst, ◌∙◌, true≢false, arith}
use Rattle.std.proofs.lemmas.Bool.{and_parts, cases_lt}
use Rattle.std.proofs.lemmas.List.{append_cancel_left, nil_from_length}
use Rattle.std.proofs.lemmas.List.Folds.{list_all-append}
use Rattle.std.proofs.lemmas.Str.{IsCharBoundary-at_seam, IsUtf8-take, chars-append}
use Rattle.std.proofs.Math.Seq.{take-append_seam}
use Rattle.std.specs.List.{list_all}
use Rattle.std.specs.Str.{chars}
use Rattle.phone_chars.proofs.Runs.{IsUtf8-after}
use Rattle.phone_parts.specs.Longest.{IsWithoutLongest, AreEndsUpTo, AreEndsWithin}
use Rattle.phone_parts.specs.Suffixes.{IsFew}
use Rattle.phone_parts.proofs.Cores.{nil_from_chars}

-- of two cuts of one text, the longer front goes on from the shorter one
pub cuts_meet : (a x b y : List ℕ) → a ++ x ≡ b ++ y → length b ≤ length a → (m : List ℕ) × (a ≡ b ++ m) × (y ≡ m ++ x)
cuts_meet a x [] y e le = (a, refl, sym e)
cuts_meet [] x (w ∷ b) y e le = absurd (omega (arith, le))
cuts_meet (c ∷ a) x (w ∷ b) y e le =
    let heads : c ≡ w = cc in
    let tails : a ++ x ≡ b ++ y = cc in
    let r = cuts_meet a x b y tails (omega (arith, le)) in
    (r.0, ap₂ (λ c t. c ∷ t) heads r.1, r.2)

-- with fronts of one length the ends are one
pub end_same : (a x b y : List ℕ) → a ++ x ≡ b ++ y → length a ≡ length b → x ≡ y
end_same a x b y e size =
    let m = cuts_meet a x b y e (omega (arith, size)) in
    let nil : m.0 ≡ [] = nil_from_length m.0 (omega (arith, size, ap length m.1, length-append b m.0)) in
    sym (m.2 ∙ ap (λ t. t ++ x) nil)

-- all characters of both parts of a text are in the set
pub all_parts : (p : ℕ → Bool) (a b : List ℕ) → list_all p (a ++ b) ≡ true → (list_all p a ≡ true) × (list_all p b ≡ true)
all_parts p a b all = and_parts (list_all p a) (list_all p b) (sym (list_all-append p a b) ∙ all)

-- no end of characters of the set goes beyond a character of another
pub stops_at_other : (p : ℕ → Bool) (left end front : List ℕ) (c : ℕ) → left ≡ front ++ c ∷ [] → p c ≡ false →
    (before other : List ℕ) → left ++ end ≡ before ++ other → list_all p other ≡ true → length left ≤ length before
stops_at_other p left end front c e none before other whole all =
    ⊎_elim
    (λ (less : length before < length left).
    let seam : front ++ (c ∷ end) ≡ before ++ other = sym (append_assoc front (c ∷ []) end) ∙ ap (λ t. t ++ end) (sym e) ∙ whole in
    let m = cuts_meet front (c ∷ end) before other seam (omega (arith, less, ap length e, length-append front (c ∷ []))) in
    let there : list_all p (m.0 ++ c ∷ end) ≡ true = ap (list_all p) (sym m.2) ∙ all in
    absurd (true≢false (sym (and_parts (p c) (list_all p end) (all_parts p m.0 (c ∷ end) there).1).0 ∙ none)))
    (λ (more : length left ≤ length before). more)
    (cases_lt (length before) (length left))

-- a text of one kind, and then a text of another
pub record IsFollowed (Front Back : List ℕ → Type 0) (w : List ℕ) : Type 0 where
  pub front : List ℕ
  pub back : List ℕ
  pub whole : w ≡ front ++ back
  pub first : Front front
  pub second : Back back

-- the fronts of texts of a kind are of that kind; or their ends are
abbrev pub HasFronts : (List ℕ → Type 0) → Type 0
HasFronts Kind = (a b : List ℕ) → Kind (a ++ b) → Kind a

abbrev pub HasEnds : (List ℕ → Type 0) → Type 0
HasEnds Kind = (a b : List ℕ) → Kind (a ++ b) → Kind b

pub few_fronts : (p : ℕ → Bool) (n : ℕ) → HasFronts (λ w. IsFew p n w)
few_fronts p n a b h = record { only = (all_parts p a b h.only).0; few = omega (arith, h.few, length-append a b) }

pub few_ends : (p : ℕ → Bool) (n : ℕ) → HasEnds (λ w. IsFew p n w)
few_ends p n a b h = record { only = (all_parts p a b h.only).1; few = omega (arith, h.few, length-append a b) }

pub run_fronts : (p : ℕ → Bool) → HasFronts (λ w. list_all p w ≡ true)
run_fronts p a b h = (all_parts p a b h).0

pub run_ends : (p : ℕ → Bool) → HasEnds (λ w. list_all p w ≡ true)
run_ends p a b h = (all_parts p a b h).1

pub followed_ends : (Front Back : List ℕ → Type 0) → HasEnds Front → HasEnds Back → HasEnds (IsFollowed Front Back)
followed_ends Front Back f g a b h =
    ⊎_elim
    (λ (short : length a < length h.front).
    let m = cuts_meet h.front h.back a b (sym h.whole) (omega (arith, short)) in
    record { front = m.0; back = h.back; whole = m.2; first = f a m.0 (subst Front m.1 h.first); second = h.second })
    (λ (long : length h.front ≤ length a).
    let m = cuts_meet a b h.front h.back h.whole long in
    record {
      front = [];
      back = b;
      whole = refl;
      first = f h.front [] (subst Front (sym (append-nil h.front)) h.first);
      second = g m.0 b (subst Back m.2 h.second);
    })
    (cases_lt (length a) (length h.front))

-- the longest end of one kind, and before it the longest of another, are the longest of both
pub then_longest : (Front Back : List ℕ → Type 0) (text left further : List ℕ) → HasFronts Front → IsWithoutLongest Back text left →
    IsWithoutLongest Front left further → IsWithoutLongest (IsFollowed Front Back) text further
then_longest Front Back text left further fronts g h = record {
  end = h.end ++ g.end;
  whole = g.whole ∙ ap (λ t. t ++ g.end) h.whole ∙ append_assoc further h.end g.end;
  kind = record { front = h.end; back = g.end; whole = refl; first = h.kind; second = g.kind };
  longest = λ before other e k.
      let cut : text ≡ (before ++ k.front) ++ k.back = e ∙ ap (λ t. before ++ t) k.whole ∙ sym (append_assoc before k.front k.back) in
      let less : length left ≤ length (before ++ k.front) = g.longest (before ++ k.front) k.back cut k.second in
      ⊎_elim
      (λ (short : length before < length left).
      let m = cuts_meet left g.end before other (sym g.whole ∙ e) (omega (arith, short)) in
      let n = cuts_meet (before ++ k.front) k.back left g.end (sym cut ∙ g.whole) less in
      let parts : k.front ≡ m.0 ++ n.0 =
      append_cancel_left before k.front (m.0 ++ n.0) (n.1 ∙ ap (λ t. t ++ n.0) m.1 ∙ append_assoc before m.0 n.0) in
      h.longest before m.0 m.1 (fronts m.0 n.0 (subst Front parts k.first)))
      (λ (long : length left ≤ length before). omega (arith, long, ap length h.whole, length-append further h.end))
      (cases_lt (length before) (length left));
}

-- the same of a wider kind
pub longest_as : (Kind Other : List ℕ → Type 0) (text left : List ℕ) → ((w : List ℕ) → Kind w → Other w) → ((w : List ℕ) → Other w → Kind w) →
    IsWithoutLongest Kind text left → IsWithoutLongest Other text left
longest_as Kind Other text left to from h =
    record { end = h.end; whole = h.whole; kind = to h.end h.kind; longest = λ before other e k. h.longest before other e (from other k) }

-- what stands before an end of a text is text
pub IsUtf8-before : (before end : List ℕ) → IsUtf8 (before ++ end) → IsUtf8 end → IsUtf8 before
IsUtf8-before before end whole u =
    rw take-append_seam at (IsUtf8-take (before ++ end) (length before) whole (IsCharBoundary-at_seam (before ++ end) before end refl u))

-- a text without characters has no bytes
no_chars : (m : List ℕ) → IsUtf8 m → length (chars m) ≤ 0 → length m ≤ 0
no_chars m u none = omega (arith, ap length (nil_from_chars m u (nil_from_length (chars m) (omega (arith, none)))))

-- fronts of a text: the one that has no more characters has no more bytes
pub bytes_from_chars : (left right before end : List ℕ) → left ++ right ≡ before ++ end → IsUtf8 left → IsUtf8 before →
    length (chars left) ≤ length (chars before) → length left ≤ length before
bytes_from_chars left right before end e is_left is_before le =
    ⊎_elim
    (λ (less : length before < length left).
    let m = cuts_meet left right before end e (omega (arith, less)) in
    let is_middle : IsUtf8 m.0 = IsUtf8-after before m.0 (subst IsUtf8 m.1 is_left) is_before in
    let cut : chars left ≡ chars before ++ chars m.0 = ap chars m.1 ∙ chars-append before m.0 is_before in
    let none : length m.0 ≤ 0 = no_chars m.0 is_middle (omega (arith, le, ap length cut, length-append (chars before) (chars m.0))) in
    absurd (omega (arith, less, none, ap length m.1, length-append before m.0)))
    (λ (more : length left ≤ length before). more)
    (cases_lt (length before) (length left))

-- the characters of a text and of its end
pub chars_cut : (text before end : List ℕ) → IsUtf8 text → text ≡ before ++ end → IsUtf8 end → chars text ≡ chars before ++ chars end
chars_cut text before end is_text cut is_end = ap chars cut ∙ chars-append before end (IsUtf8-before before end (subst IsUtf8 cut is_text) is_end)

-- no end of a kind goes beyond a front in characters: nor does it in bytes
pub ends_within : (Kind : List ℕ → Type 0) (text left right : List ℕ) → IsUtf8 text → IsUtf8 left → text ≡ left ++ right →
    ((before other : List ℕ) → chars text ≡ before ++ other → Kind other → length (chars left) ≤ length before) →
    (n : ℕ) → n ≡ length text - length left → AreEndsWithin Kind n text
ends_within Kind text left right is_text is_left whole longest n size before end cut is_end kind =
    let is_before : IsUtf8 before = IsUtf8-before before end (subst IsUtf8 cut is_text) is_end in
    let le : length (chars left) ≤ length (chars before) = longest (chars before) (chars end) (chars_cut text before end is_text cut is_end) kind in
    let bytes : length left ≤ length before = bytes_from_chars left right before end (sym whole ∙ cut) is_left is_before le in
    omega (arith, size, bytes, ap length cut, length-append before end)

-- and where ends of such texts are such texts, an end is one exactly if it is no longer
pub ends_up_to : (Kind : List ℕ → Type 0) (text left right : List ℕ) → IsUtf8 text → IsUtf8 left → text ≡ left ++ right → HasEnds Kind →
    IsWithoutLongest Kind (chars text) (chars left) → (n : ℕ) → n ≡ length text - length left → AreEndsUpTo Kind n text
ends_up_to Kind text left right is_text is_left whole ends h n size before end cut is_end =
    (ends_within Kind text left right is_text is_left whole h.longest n size before end cut is_end, shorter)
  where
    shorter : length end ≤ n → Kind (chars end)
    shorter few =
        let m = cuts_meet before end left right (sym cut ∙ whole)
        (omega (arith, size, few, ap length cut, length-append before end, ap length whole, length-append left right)) in
        let is_before : IsUtf8 before = IsUtf8-before before end (subst IsUtf8 cut is_text) is_end in
        let is_middle : IsUtf8 m.0 = IsUtf8-after left m.0 (subst IsUtf8 m.1 is_before) is_left in
        let of_right : h.end ≡ chars right =
        append_cancel_left (chars left) h.end (chars right) (sym h.whole ∙ ap chars whole ∙ chars-append left right is_left) in
        let parts : h.end ≡ chars m.0 ++ chars end = of_right ∙ ap chars m.2 ∙ chars-append m.0 end is_middle in
        ends (chars m.0) (chars end) (subst Kind parts h.kind)

-- what holds of the ends of a text holds of those of its ends
pub up_to_of_end : (Kind : List ℕ → Type 0) (n : ℕ) (text v rest : List ℕ) → text ≡ v ++ rest → AreEndsUpTo Kind n text → AreEndsUpTo Kind n rest
up_to_of_end Kind n text v rest whole h before end cut is_end =
    h (v ++ before) end (whole ∙ ap (λ t. v ++ t) cut ∙ sym (append_assoc v before end)) is_end

pub within_of_end : (Kind : List ℕ → Type 0) (n : ℕ) (text v rest : List ℕ) → text ≡ v ++ rest → AreEndsWithin Kind n text → AreEndsWithin Kind n rest
within_of_end Kind n text v rest whole h before end cut is_end =
    h (v ++ before) end (whole ∙ ap (λ t. v ++ t) cut ∙ sym (append_assoc v before end)) is_end
