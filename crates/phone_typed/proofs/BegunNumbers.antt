-- That the beginnings of plain numbers are shown as they stand in the printed texts.
use Rattle.std.proofs.Common.{◌≡◌, ℕ, suc, zero, ◌+◌, ◌/◌, ◌%◌, ◌<◌, ◌==◌, ◌||◌, nat_le, true, false, if◌then◌else◌, List, [], ◌∷◌, ◌++◌, take, drop, length, replicate, Option, None, append-nil, refl, ap, ap₂, sym, ◌∙◌, arith, true≢false, lt-ltb}
use Rattle.std.proofs.Math.Seq.{drop-append_seam, take-append_seam}
use Rattle.std.proofs.lemmas.Bool.{and_from, and_parts, cond_both, le-leb, or_left}
use Rattle.std.proofs.lemmas.List.{length-append}
use Rattle.std.proofs.lemmas.List.Folds.{list_all-append}
use Rattle.std.proofs.lemmas.Nat.{mod_below}
use Rattle.std.specs.Fmt.{decimal, digit_glyph, digits, digits_onto}
use Rattle.std.specs.List.{list_all}
use Rattle.std.specs.Option.{option_map_or}
use Rattle.phone_chars.specs.Characters.{is_digit}
use Rattle.phone_values.specs.Numbers.{National, text_of}
use Rattle.phone_values.specs.declared.country.Id.{Id}
use Rattle.phone_values.specs.declared.mode.Mode.{Mode}
use Rattle.phone_values.specs.declared.mode.Mode.TheVariants.{International, National as Nationally}
use Rattle.phone_values.specs.declared.reading.Reading.{Reading}
use Rattle.phone_read.specs.Strips.{step}
use Rattle.phone_print.specs.Texts.{extension_part, international_text, laid_out, national_text}
use Rattle.phone_records.specs.declared.loader.Metadata.{Metadata}
use Rattle.phone_typed.specs.Beginnings.{IsBegun}
use Rattle.phone_typed.specs.Keys.{HasNoPlus, is_key, up_to_key}
use Rattle.phone_typed.specs.Printed.{IsPlainAbroad, IsPlainAtHome, national_keys}
use Rattle.phone_typed.specs.Typed.{is_short, text_of_code, text_of_keys, typed}
use Rattle.phone_typed.proofs.BegunTexts.{text_of_begun}
use Rattle.phone_typed.proofs.BlankTexts.{up_to_key-keys}
use Rattle.phone_typed.proofs.CodesAtFront.{shortest-stays}
use Rattle.phone_typed.proofs.HomeTexts.{typed_in}

-- a glyph of base ten is a digit
glyph_digit : (d : ℕ) → d < 10 → is_digit (digit_glyph false d) ≡ true
glyph_digit d less =
    ap (λ b. is_digit (if b then 48 + d else 87 + d)) (lt-ltb d 10 less)
    ∙ and_from (nat_le 48 (48 + d)) (nat_le (48 + d) 57) (le-leb 48 (48 + d) (omega arith)) (le-leb (48 + d) 57 (omega (arith, less)))

all_onto : (k n : ℕ) (acc : List ℕ) → list_all is_digit acc ≡ true → list_all is_digit (digits_onto k 10 false n acc) ≡ true
all_onto zero n acc are = are
all_onto (suc k) n acc are =
    let more : list_all is_digit (digit_glyph false (n % 10) ∷ acc) ≡ true = and_from _ _ (glyph_digit (n % 10) (mod_below n 10 (omega arith))) are in
    cond_both (n / 10 == 0) (digit_glyph false (n % 10) ∷ acc) (digits_onto k 10 false (n / 10) (digit_glyph false (n % 10) ∷ acc)) (λ t. list_all is_digit t ≡ true)
    (λ _. more) (λ _. all_onto k (n / 10) (digit_glyph false (n % 10) ∷ acc) more)

decimal_digits : (n : ℕ) → list_all is_digit (decimal n) ≡ true
unfolding digits
decimal_digits n = all_onto 64 n [] refl

zeros_digits : (k : ℕ) → list_all is_digit (replicate k 48) ≡ true
zeros_digits zero = refl
zeros_digits (suc k) = zeros_digits k

-- digits are keys
digits_keys : (ds : List ℕ) → list_all is_digit ds ≡ true → list_all is_key ds ≡ true
digits_keys [] are = refl
digits_keys (d ∷ ds) are =
    let parts = and_parts (is_digit d) (list_all is_digit ds) are in
    and_from _ _ (or_left (is_digit d) (d == 43) parts.0) (digits_keys ds parts.1)

text_keys : (n : National) → list_all is_key (text_of n) ≡ true
text_keys n = digits_keys (text_of n) (list_all-append is_digit (replicate n.zeros 48) (decimal n.value) ∙ and_from _ _ (zeros_digits n.zeros) (decimal_digits n.value))

-- a space before the first key
space : (keys text : List ℕ) → (is_short keys || is_short keys) ≡ false → up_to_key (length keys) (32 ∷ text) ≡ 32 ∷ up_to_key (length keys) text
space [] text some = absurd (true≢false some)
space (k ∷ keys) text some = refl

-- without an extension nothing follows
nothing_follows : (m : Metadata) (mode : Mode) (n : Reading) → n.extension ≡ None → laid_out m mode None n ++ extension_part m n.extension ≡ laid_out m mode None n
nothing_follows m mode n none = ap (λ e. laid_out m mode None n ++ extension_part m e) none ∙ append-nil (laid_out m mode None n)

pub begun_abroad : (db : List Metadata) (hint : Option Id) (m : Metadata) (n : Reading) (front rest : List ℕ) → IsPlainAbroad db m n → text_of n.national ≡ front ++ rest →
    IsBegun m International n front front →
    typed db hint (43 ∷ (decimal n.code.value ++ front)) ≡ up_to_key (length (43 ∷ (decimal n.code.value ++ front))) (international_text m None n)
begun_abroad db hint m n front rest plain split begun =
    let code = decimal n.code.value in
    let k = length code in
    let text = laid_out m International None n in
    let whole : List ℕ = text ++ extension_part m n.extension in
    let found = shortest-stays db n.code.value (text_of n.national) front plain.code in
    let are : list_all is_key front ≡ true = (and_parts _ _ (sym (list_all-append is_key front rest) ∙ ap (list_all is_key) (sym split) ∙ text_keys n.national)).0 in
    let shown = text_of_begun m International n (text_of n.national) front front rest plain.plain begun split (text_keys n.national) are in
    ap (λ o. option_map_or (text_of_code db (code ++ front)) o (43 ∷ (code ++ front))) found
    ∙ ap (λ o. option_map_or (λ m. 43 ∷ (take k (code ++ front) ++ 32 ∷
    text_of_keys m International (drop k (code ++ front)) (drop k (code ++ front)))) o (43 ∷ (code ++ front))) plain.territory
    ∙ ap₂ (λ front back. 43 ∷ (front ++ 32 ∷ text_of_keys m International back back)) (take-append_seam code front) (drop-append_seam code front)
    ∙ ap (λ t. 43 ∷ (code ++ 32 ∷ t)) (shown ∙ ap (up_to_key (length front)) (sym (nothing_follows m International n plain.plain.no_extension)))
    ∙ ap (λ t. 43 ∷ (code ++ t)) (sym (space front whole begun.long_enough))
    ∙ ap (λ t. 43 ∷ t) (sym (up_to_key-keys code (32 ∷ whole) (length front) (length (code ++ front)) (digits_keys code (decimal_digits n.code.value)) (length-append code front)))

-- a front of keys that don't begin with a plus sign doesn't begin with one
unsigned_front : (keys rest : List ℕ) (first : ℕ) (others : List ℕ) → (first == 43) ≡ false → keys ++ rest ≡ first ∷ others → HasNoPlus keys
unsigned_front [] rest first others no_sign split more e = absurd (cc)
unsigned_front (k ∷ keys) rest first others no_sign split more e =
    let same : first ≡ 43 = cc in
    true≢false (ap (λ c. c == 43) (sym same) ∙ no_sign)

pub begun_at_home : (db : List Metadata) (hint : Option Id) (m : Metadata) (n : Reading) (keys rest : List ℕ) → IsPlainAtHome db hint m n → national_keys m n ≡ keys ++ rest →
    list_all is_digit (step m keys None).national ≡ true → IsBegun m Nationally n (step m keys None).national keys →
    typed db hint keys ≡ up_to_key (length keys) (national_text m None n)
begun_at_home db hint m n keys rest plain split digits begun =
    let no_plus = unsigned_front keys rest plain.first_key plain.other_keys plain.no_sign (sym split ∙ plain.keys) in
    sym (typed_in db hint keys m no_plus plain.territory)
    ∙ text_of_begun m Nationally n (national_keys m n) (step m keys None).national keys rest plain.plain begun split (text_keys n.national) (digits_keys (step m keys None).national digits)
    ∙ ap (up_to_key (length keys)) (sym (nothing_follows m Nationally n plain.plain.no_extension))
