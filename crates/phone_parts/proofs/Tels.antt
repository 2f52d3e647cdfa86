-- A text has one reading as a `tel:` text.
use Rattle.std.proofs.Common.{◌≡◌, ◌⊎◌, inl, inr, ⊎_elim, ℕ, ◌<◌, ◌==◌, Bool, true, false, not, cond, ◌||◌, List, [], ◌∷◌, ◌++◌, reverse, Option, Some, None, option_map, codes, unwrap_or, refl, ap, sym, subst, ◌∙◌, true≢false, arith, eqb-true, ap₂, slice_index_or}
use Rattle.std.proofs.lemmas.List.{reverse-append}
use Rattle.std.proofs.lemmas.Bool.Decides.{nat_tests}
use Rattle.std.specs.List.{find}
use Rattle.std.specs.Option.{option_or}
use Rattle.std.specs.Str.{bytes_eq, chars}
use Rattle.ucd_case.proofs.CaseFoldingLemmas.{simple_folding_stepped}
use Rattle.ucd_case.proofs.Computing.{ucd_case}
use Rattle.ucd_case.specs.CaseFolding.{simple_folding}
use Rattle.ucd_table.proofs.Facts.{Stepped-below}
use Rattle.phone_chars.specs.Cuts.{front, after_front}
use Rattle.phone_chars.specs.Characters.{same_fold}
use Rattle.phone_parts.specs.Tel
use Rattle.phone_parts.specs.Parts.{Parts}
use Rattle.phone_parts.specs.Tel.{IsTel, Parameter, BeginsWith, HasParameters, IsSignedRun, value_of, is_visual, is_phonedigit, is_name_char, is_value_char}
use Rattle.phone_parts.specs.Texts.{begins, is_like, after_like}
use Rattle.phone_parts.proofs.Likes.{after_like_front, after_like_parts}
use Rattle.phone_parts.proofs.Runs.{front_of_run, after_front_of_run}

-- the value of the last parameter of a name
pub value_of-push : (name : List ℕ) (ps : List Parameter) (p : Parameter) →
    value_of name (ps ++ p ∷ []) ≡ cond (bytes_eq p.name name) (Some p.value) (value_of name ps)
value_of-push name ps p =
    ap (λ qs. option_map (λ (q : Parameter). q.value) (find (λ (q : Parameter). bytes_eq q.name name) qs)) (reverse-append ps (p ∷ []))
    ∙ at_last (bytes_eq p.name name)
  where
    rest : Option Parameter
    rest = find (λ (q : Parameter). bytes_eq q.name name) (reverse ps)

    at_last : (b : Bool) → option_map (λ (q : Parameter). q.value) (cond b (Some p) (find (λ (q : Parameter). bytes_eq q.name name) (reverse ps)))
        ≡ cond b (Some p.value) (value_of name ps)
    at_last true = refl
    at_last false = refl

-- what a parameter's name and value are in a text, and what follows
pub record ParameterCut (p : Parameter) (text tail : List ℕ) : Type 0 where
  pub after : List ℕ
  pub valued : List ℕ
  pub semicolon : text ≡ 59 ∷ after
  pub name : p.name ≡ front is_name_char after
  pub equals : 61 ∷ valued ≡ after_front is_name_char after
  pub value : p.value ≡ front is_value_char valued
  pub rest : tail ≡ after_front is_value_char valued

pub parameter_cut : (p : Parameter) (text rest : List ℕ) → BeginsWith p text rest → ParameterCut p text rest
parameter_cut p text rest h = record {
  after = p.name ++ 61 ∷ (p.value ++ rest);
  valued = p.value ++ rest;
  semicolon = h.whole;
  name = sym (front_of_run is_name_char p.name (61 ∷ (p.value ++ rest)) h.named refl);
  equals = sym (after_front_of_run is_name_char p.name (61 ∷ (p.value ++ rest)) h.named refl);
  value = sym (front_of_run is_value_char p.value rest h.valued h.longest);
  rest = sym (after_front_of_run is_value_char p.value rest h.valued h.longest);
}

pub record IsSameCut (p q : Parameter) (r s : List ℕ) : Type 0 where
  pub parameter : p ≡ q
  pub rest : r ≡ s

pub parameter_same : (p q : Parameter) (text r s : List ℕ) → BeginsWith p text r → BeginsWith q text s → IsSameCut p q r s
parameter_same p q text r s g h =
    let a = parameter_cut p text r g in
    let b = parameter_cut q text s h in
    let after : a.after ≡ b.after = cc (a.semicolon, b.semicolon) in
    let name : p.name ≡ q.name = a.name ∙ ap (front is_name_char) after ∙ sym b.name in
    let equals : 61 ∷ a.valued ≡ 61 ∷ b.valued = a.equals ∙ ap (after_front is_name_char) after ∙ sym b.equals in
    let valued : a.valued ≡ b.valued = cc in
    let value : p.value ≡ q.value = a.value ∙ ap (front is_value_char) valued ∙ sym b.value in
    let made : List ℕ → List ℕ → Parameter = λ n v. record { name = n; value = v } in
    record { parameter = ap₂ made name value; rest = a.rest ∙ ap (after_front is_value_char) valued ∙ sym b.rest }

-- a text has one longest list of parameters
pub parameters_unique : (text : List ℕ) (ps qs : List Parameter) → HasParameters text ps → HasParameters text qs → ps ≡ qs
parameters_unique text ps qs (Tel.no_more t none) (Tel.no_more u more) = refl
parameters_unique text ps qs (Tel.no_more t none) (Tel.one_more q us u r h hs) = absurd (none q r h)
parameters_unique text ps qs (Tel.one_more p ts t s g gs) (Tel.no_more u none) = absurd (none p s g)
parameters_unique text ps qs (Tel.one_more p ts t s g gs) (Tel.one_more q us u r h hs) =
    let same = parameter_same p q t s r g h in
    let rests : ts ≡ us = parameters_unique r ts us (subst (λ x. HasParameters x ts) same.rest gs) hs in
    ap (λ x. x ∷ ts) same.parameter ∙ ap (λ xs. q ∷ xs) rests

abbrev pub not_visual : ℕ → Bool
not_visual c = not (is_visual c)

-- after a plus sign the run is the longest one
pub record IsPlusRun (after tail : List ℕ) (found : Option (List ℕ)) : Type 0 where
  pub run : found ≡ Some (front not_visual after)
  pub rest : tail ≡ after_front not_visual after
  pub some : begins not_visual (front not_visual after) ≡ true

pub plus_run : (text after signs rest : List ℕ) (run : Option (List ℕ)) → text ≡ 43 ∷ after → text ≡ signs ++ rest → IsSignedRun rest signs run → IsPlusRun after rest run
plus_run text after signs rest run e f (Tel.unsigned none) = absurd (true≢false (ap (begins (λ c. c == 43)) (sym e ∙ f) ∙ none))
plus_run text after signs rest run e f (Tel.signed r first all none) =
    let same : after ≡ r ++ rest = cc in
    let is_front : front not_visual after ≡ r = ap (front not_visual) same ∙ front_of_run not_visual r rest all none in
    record {
      run = ap Some (sym is_front);
      rest = sym (ap (after_front not_visual) same ∙ after_front_of_run not_visual r rest all none);
      some = ap (begins not_visual) is_front ∙ first;
    }

-- without a plus sign there is no run
pub record IsNoRun (text tail : List ℕ) (found : Option (List ℕ)) : Type 0 where
  pub run : found ≡ None
  pub rest : tail ≡ text

pub no_run : (text signs rest : List ℕ) (run : Option (List ℕ)) → begins (λ c. c == 43) text ≡ false → text ≡ signs ++ rest → IsSignedRun rest signs run → IsNoRun text rest run
no_run text signs rest run e f (Tel.unsigned none) = record { run = refl; rest = sym f }
no_run text signs rest run e f (Tel.signed r first all none) = absurd (true≢false (ap (begins (λ c. c == 43)) (sym f) ∙ e))

pub record IsSameRun (r s : List ℕ) (a b : Option (List ℕ)) : Type 0 where
  pub run : a ≡ b
  pub rest : r ≡ s

pub signed_run_same : (text x r y s : List ℕ) (a b : Option (List ℕ)) → text ≡ x ++ r → IsSignedRun r x a → text ≡ y ++ s → IsSignedRun s y b → IsSameRun r s a b
signed_run_same [] x r y s a b e g f h =
    let k = no_run [] x r a refl e g in
    let l = no_run [] y s b refl f h in
    record { run = k.run ∙ sym l.run; rest = k.rest ∙ sym l.rest }
signed_run_same (c ∷ cs) x r y s a b e g f h = at_head (c == 43) refl
  where
    at_head : (q : Bool) → (c == 43) ≡ q → IsSameRun r s a b
    at_head true t =
        let same : c ≡ 43 = eqb-true c 43 t in
        let k = plus_run (c ∷ cs) cs x r a (ap (λ z. z ∷ cs) same) e g in
        let l = plus_run (c ∷ cs) cs y s b (ap (λ z. z ∷ cs) same) f h in
        record { run = k.run ∙ sym l.run; rest = k.rest ∙ sym l.rest }
    at_head false t =
        let k = no_run (c ∷ cs) x r a t e g in
        let l = no_run (c ∷ cs) y s b t f h in
        record { run = k.run ∙ sym l.run; rest = k.rest ∙ sym l.rest }

-- neither a plus sign nor a national part begins as `tel:` does
begins_tel : ℕ → Bool
begins_tel c = is_phonedigit c || (c == 43)

first_of_tel : (c : ℕ) → c < 128 → (not (begins_tel c) || not (same_fold c 116)) ≡ true
unfolding begins_tel ucd_case
first_of_tel c less =
    Stepped-below simple_folding simple_folding_stepped (λ x v. not (begins_tel x) || not (slice_index_or v 0 x == 116)) 128 refl c less

excluded : (a b : Bool) → (not a || not b) ≡ true → a ≡ true → b ≡ false
excluded true true e f = sym e
excluded true false e f = refl
excluded false b e f = absurd (true≢false (sym f))

small_of_tel : (c : ℕ) → begins_tel c ≡ true → c < 128
unfolding begins_tel
small_of_tel c h = grind (arith, nat_tests)

not_t : (c : ℕ) → begins_tel c ≡ true → same_fold c 116 ≡ false
not_t c h = excluded (begins_tel c) (same_fold c 116) (first_of_tel c (small_of_tel c h)) h

abbrev pub after_scheme : List ℕ → List ℕ
after_scheme text = unwrap_or (after_like text (codes "tel:")) text

no_scheme : (text : List ℕ) → begins begins_tel text ≡ true → after_like text (codes "tel:") ≡ None
no_scheme [] h = absurd (true≢false (sym h))
no_scheme (c ∷ cs) h = rw (not_t c h)

begins_tel_text : (signs national tail : List ℕ) (run : Option (List ℕ)) → IsSignedRun (national ++ tail) signs run → begins is_phonedigit national ≡ true →
    begins begins_tel (signs ++ (national ++ tail)) ≡ true
unfolding begins_tel
begins_tel_text signs [] tail run h some = absurd (true≢false (sym some))
begins_tel_text signs (c ∷ cs) tail run (Tel.unsigned none) some = ap (λ b. b || (c == 43)) some
begins_tel_text signs (c ∷ cs) tail run (Tel.signed r first all none) some = refl

-- what follows the scheme
pub scheme_cut : (text : List ℕ) (parts : Parts) (h : IsTel text parts) → after_scheme text ≡ h.signed_run ++ (parts.national ++ h.tail)
scheme_cut text parts h =
    let rest = h.signed_run ++ (parts.national ++ h.tail) in
    let first = begins_tel_text h.signed_run parts.national h.tail h.run h.is_run h.some_national in
    ⊎_elim
    (λ (e : h.scheme ≡ []).
    let same : text ≡ rest = h.whole ∙ ap (λ s. s ++ rest) e in
    ap after_scheme same ∙ ap (λ o. unwrap_or o rest) (no_scheme rest first))
    (λ (e : is_like h.scheme (codes "tel:") ≡ true).
    ap after_scheme h.whole ∙ ap (λ o. unwrap_or o (h.scheme ++ rest)) (after_like_front h.scheme (codes "tel:") rest e))
    h.is_scheme

pub record HasScheme (text rest : List ℕ) : Type 0 where
  pub scheme : List ℕ
  pub whole : text ≡ scheme ++ rest
  pub is_scheme : (scheme ≡ []) ⊎ (is_like scheme (codes "tel:") ≡ true)

pub scheme_of : (text : List ℕ) → HasScheme text (after_scheme text)
scheme_of text = at (after_like text (codes "tel:")) refl
  where
    at : (o : Option (List ℕ)) → after_like text (codes "tel:") ≡ o → HasScheme text (unwrap_or o text)
    at None e = record { scheme = []; whole = refl; is_scheme = inl refl }
    at (Some rest) e = let r = after_like_parts text (codes "tel:") rest e in record { scheme = r.name; whole = r.whole; is_scheme = inr r.like }

-- the cuts of a reading are those of the text
pub record AreTelCuts (middle end rest : List ℕ) (a b : Option (List ℕ)) : Type 0 where
  pub national : middle ≡ front is_phonedigit rest
  pub tail : end ≡ after_front is_phonedigit rest
  pub run : a ≡ b

pub tel_cuts : (text : List ℕ) (parts : Parts) (h : IsTel text parts) (signs rest : List ℕ) (run : Option (List ℕ)) →
    after_scheme text ≡ signs ++ rest → IsSignedRun rest signs run → AreTelCuts parts.national h.tail rest h.run run
tel_cuts text parts h signs rest run e g =
    let same = signed_run_same (after_scheme text) h.signed_run (parts.national ++ h.tail) signs rest h.run run (scheme_cut text parts h) h.is_run e g in
    record {
      national = sym (front_of_run is_phonedigit parts.national h.tail h.all_national h.longest) ∙ ap (front is_phonedigit) same.rest;
      tail = sym (after_front_of_run is_phonedigit parts.national h.tail h.all_national h.longest) ∙ ap (after_front is_phonedigit) same.rest;
      run = same.run;
    }

-- a text has one reading as a `tel:` text
pub tel_unique : (text : List ℕ) (a b : Parts) → IsTel text a → IsTel text b → a ≡ b
tel_unique text a b g h =
    let cuts = tel_cuts text a g h.signed_run (b.national ++ h.tail) h.run (scheme_cut text b h) h.is_run in
    let national : a.national ≡ b.national = cuts.national ∙ front_of_run is_phonedigit b.national h.tail h.all_national h.longest in
    let tail : g.tail ≡ h.tail = cuts.tail ∙ after_front_of_run is_phonedigit b.national h.tail h.all_national h.longest in
    let ps : g.parameters ≡ h.parameters = parameters_unique h.tail g.parameters h.parameters (subst (λ t. HasParameters t g.parameters) tail g.has_parameters) h.has_parameters in
    let prefix : a.prefix ≡ b.prefix =
    g.prefix ∙ ap₂ (λ r qs. option_or r (option_map Tel.without_plus (value_of (codes "phone-context") qs))) cuts.run ps ∙ sym h.prefix in
    let extension : a.extension ≡ b.extension = g.extension ∙ ap (value_of (codes "ext")) ps ∙ sym h.extension in
    let made : List ℕ → Option (List ℕ) → Parts = λ n p. record { national = n; prefix = p; extension = a.extension } in
    ap₂ made national prefix ∙ ap (λ e. record { national = b.national; prefix = b.prefix; extension = e }) extension

pub chars_tel : chars (codes "tel:") ≡ codes "tel:"
unfolding chars
chars_tel = refl

pub chars_context : chars (codes "phone-context") ≡ codes "phone-context"
unfolding chars
chars_context = refl

pub chars_ext : chars (codes "ext") ≡ codes "ext"
unfolding chars
chars_ext = refl
