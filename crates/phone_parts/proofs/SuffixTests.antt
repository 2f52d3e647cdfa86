-- A test whether a text may be an extension, which rows compute: where it fails the text is none.
use Rattle.std.proofs.Common.{◌≡◌, ⊎_elim, ℕ, ◌<◌, ◌≤◌, Bool, true, false, not, ◌&&◌, ◌||◌, nat_le, List, [], ◌∷◌, ◌++◌, length, length-drop, drop, codes, refl, ap, sym, subst, ◌∙◌, true≢false, arith}
use Rattle.std.proofs.lemmas.Bool.{not-true, cases_lt, and_parts, and_from, or_left, or_right, le-leb}
use Rattle.std.proofs.lemmas.List.{nil_from_length}
use Rattle.std.proofs.lemmas.Slice.Eq.{bytes_eq-Decides}
use Rattle.std.specs.List.{list_any, list_all}
use Rattle.std.specs.Option.{option_map_or}
use Rattle.std.specs.Str.{bytes_eq}
use Rattle.ucd_table.proofs.TrieCheck.{all_below, all_below-at}
use Rattle.phone_chars.specs.Characters.{is_nd}
use Rattle.phone_chars.specs.Cuts.{front, after_front}
use Rattle.phone_parts.specs.Suffixes.{IsSuffix, IsAnnounced, IsEnding, HasNoSuffix, indicators, is_lead, is_mark, is_gap, is_sign, is_dash, is_suffix_start}
use Rattle.phone_parts.specs.Texts.{begins, after_like, after_one, is_like}
use Rattle.phone_parts.specs.declared.suffix.Form.{Form}
use Rattle.phone_parts.specs.declared.suffix.Form.TheVariants.{Parameter, Indicated, NumberSign}
use Rattle.phone_parts.proofs.Endings.{ending_cut, after_sign, number_signed_cut, parameter_cut}
use Rattle.phone_parts.proofs.Likes.{after_like_front}
use Rattle.phone_parts.proofs.Starts.{suffix_begins, not_announced_nil}

abbrev pub is_nil : List ℕ → Bool
is_nil [] = true
is_nil (c ∷ cs) = false

-- a mark, a gap, at most seven digits and a number sign are all of it
abbrev pub may_end : List ℕ → Bool
may_end w =
    let from = after_front is_gap (after_one is_mark w) in
    is_nil (after_one is_sign (after_front is_nd from)) && nat_le (length (front is_nd from)) 7

-- the word, and such an ending
abbrev pub may_follow : List ℕ → List ℕ → Bool
may_follow text word = option_map_or may_end (after_like text word) false

abbrev pub may_announce : List ℕ → Bool
may_announce text = list_any (may_follow text) indicators

-- that after a lead
abbrev pub may_indicate : List ℕ → Bool
may_indicate [] = false
may_indicate (c ∷ cs) = may_announce (c ∷ cs) || (is_lead c && may_indicate cs)

-- a number sign alone behind hyphens, spaces and digits
abbrev pub may_sign : List ℕ → Bool
may_sign w = bytes_eq (after_front is_nd (after_front is_dash w)) (35 ∷ [])

-- `;ext=` at the front
abbrev pub may_be_parameter : List ℕ → Bool
may_be_parameter w = option_map_or (λ d. true) (after_like w (codes ";ext=")) false

abbrev pub may_be_suffix : List ℕ → Bool
may_be_suffix w = begins is_suffix_start w && (may_be_parameter w || (may_sign w || may_indicate w))

ending_passes : (w d : List ℕ) → IsEnding w d → may_end w ≡ true
ending_passes w d h =
    let cut = ending_cut w d h in
    and_from _ _
    (ap (λ t. is_nil (after_one is_sign t)) (sym cut.sign) ∙ ap is_nil (after_sign h.sign h.signs))
    (ap (λ t. nat_le (length t) 7) (sym cut.digits) ∙ le-leb (length d) 7 h.digits.few)

word_passes : (name word rest : List ℕ) → is_like name word ≡ true → may_end rest ≡ true → may_follow (name ++ rest) word ≡ true
word_passes name word rest like ends = ap (λ o. option_map_or may_end o false) (after_like_front name word rest like) ∙ ends

any_word_passes : (name rest : List ℕ) (words : List (List ℕ)) → list_any (is_like name) words ≡ true → may_end rest ≡ true →
    list_any (may_follow (name ++ rest)) words ≡ true
any_word_passes name rest [] any ends = absurd (true≢false (sym any))
any_word_passes name rest (w ∷ ws) any ends = at_head (is_like name w) refl any (any_word_passes name rest ws)
  where
    at_head : (b : Bool) → is_like name w ≡ b → (b || list_any (is_like name) ws) ≡ true →
        (list_any (is_like name) ws ≡ true → may_end rest ≡ true → list_any (may_follow (name ++ rest)) ws ≡ true) →
        (may_follow (name ++ rest) w || list_any (may_follow (name ++ rest)) ws) ≡ true
    at_head true e f g = or_left _ _ (word_passes name w rest e ends)
    at_head false e f g = or_right _ _ (g f ends)

announced_passes : (w d : List ℕ) → IsAnnounced indicators w d → may_announce w ≡ true
announced_passes w d h = ap may_announce h.whole ∙ any_word_passes h.word h.ending indicators h.announces (ending_passes h.ending d h.ends)

lead_passes : (lead rest d : List ℕ) → list_all is_lead lead ≡ true → IsAnnounced indicators rest d → may_indicate (lead ++ rest) ≡ true
lead_passes [] [] d all h = absurd (not_announced_nil d h)
lead_passes [] (c ∷ rest) d all h = or_left _ _ (announced_passes (c ∷ rest) d h)
lead_passes (x ∷ lead) rest d all h =
    let parts = and_parts (is_lead x) (list_all is_lead lead) all in
    or_right _ _ (and_from _ _ parts.0 (lead_passes lead rest d parts.1 h))

-- an extension passes the test
pub suffix_passes : (w : List ℕ) (f : Form) (d : List ℕ) → IsSuffix w f d → may_be_suffix w ≡ true
suffix_passes w Parameter d h =
    and_from _ _ (suffix_begins w Parameter d h) (or_left _ _ (ap (λ o. option_map_or (λ d. true) o false) (parameter_cut w d h)))
suffix_passes w Indicated d h =
    and_from _ _ (suffix_begins w Indicated d h)
    (or_right _ _ (or_right _ _ (ap may_indicate h.whole ∙ lead_passes h.lead h.rest d h.leads h.announced)))
suffix_passes w NumberSign d h =
    and_from _ _ (suffix_begins w NumberSign d h)
    (or_right _ _ (or_left _ _ ((bytes_eq-Decides (after_front is_nd (after_front is_dash w)) (35 ∷ [])).1 (sym (number_signed_cut w d h).back))))

-- no extension begins at border k
unfoldable pub fails_at : List ℕ → ℕ → Bool
fails_at text k = not (may_be_suffix (drop k text))

pub no_suffix_before : (text : List ℕ) (n : ℕ) → all_below (fails_at text) n ≡ true → (k : ℕ) (f : Form) (d : List ℕ) → k < n → ¬ (IsSuffix (drop k text) f d)
unfolding fails_at
no_suffix_before text n none k f d less h =
    true≢false (sym (suffix_passes (drop k text) f d h) ∙ not-true _ (all_below-at (fails_at text) n k none less))

pub no_suffix : (text : List ℕ) → all_below (fails_at text) (length text) ≡ true → HasNoSuffix text
no_suffix text none k f d h =
    ⊎_elim
    (λ (less : k < length text). no_suffix_before text (length text) none k f d less h)
    (λ (more : length text ≤ k).
    let nil : drop k text ≡ [] = nil_from_length (drop k text) (omega (arith, length-drop k text)) in
    true≢false (sym (suffix_begins [] f d (subst (λ t. IsSuffix t f d) nil h))))
    (cases_lt k (length text))
