-- The code of a number, by the way it was dialled.
use Rattle.std.proofs.Common.{◌≡◌, ℕ, nat_le, if◌then◌else◌, List, length, drop, unwrap_or, Option, Some, None, option_map, Result, Ok, Err, IfOk, IfErr, IsSome, MatchResult, refl, ap, sym, subst, ◌∙◌}
use Rattle.std.proofs.lemmas.Bool.{cond_both, false≢true}
use Rattle.std.specs.Fmt.{decimal}
use Rattle.std.specs.Option.{option_map_or}
use Rattle.std.specs.Result.{result_map_both}
use Rattle.phone_chars.specs.Norm.{norm}
use Rattle.phone_values.specs.Numbers.{number_in}
use Rattle.phone_values.specs.declared.country.Id.{Id}
use Rattle.phone_values.specs.declared.country.Source.{Source}
use Rattle.phone_values.specs.declared.country.Source.TheVariants.{Plus, Idd, Number, Default}
use Rattle.phone_values.specs.declared.error.ParseError.{ParseError}
use Rattle.phone_values.specs.declared.error.ParseError.TheVariants.{InvalidCountryCode, MalformedInteger, Memory, TooShortNsn}
use Rattle.phone_plans.specs.CodeLookUps.{is_listed, shortest}
use Rattle.phone_records.specs.declared.loader.Metadata.{Metadata}
use Rattle.phone_parts.specs.declared.number.Number.{Number as Parts}
use Rattle.phone_read.specs.CallingCodes.{IsCoded, code_by, code_by_front, code_by_prefix, code_of, dialled_under, international_prefix_of, prefix_of, with_three}
use Rattle.phone_read.specs.Dialling.{dialled, found_in}
use Rattle.phone_read.specs.Hints.{Coded, hinted}

-- the code is told by the source and the digits that the way of dialling gives
pub code_of-dialled : (db : List Metadata) (hint : Option Id) (m : Option Metadata) (pattern : Option (List ℕ)) (n : List ℕ) (p q : Option (List ℕ)) (source : Source) (digits : List ℕ) →
    m ≡ hinted db hint → pattern ≡ international_prefix_of m → q ≡ option_map norm p →
    source ≡ (dialled (found_in pattern) n p).source → digits ≡ (dialled (found_in pattern) n p).digits → code_of db hint n p ≡ code_by db m q source digits
code_of-dialled db hint m pattern n p q source digits of_hint of_territory of_reader s d =
    let same : international_prefix_of (hinted db hint) ≡ pattern = ap international_prefix_of (sym of_hint) ∙ sym of_territory in
    let found = λ (o : Option (List ℕ)). dialled (found_in o) n p in
    ap (λ o. code_by db (hinted db hint) (option_map norm p) (found o).source (found o).digits) same
    ∙ ap (λ h. code_by db h (option_map norm p) (found pattern).source (found pattern).digits) (sym of_hint)
    ∙ ap (λ x. code_by db m x (found pattern).source (found pattern).digits) (sym of_reader)
    ∙ ap (λ x. code_by db m q x (found pattern).digits) (sym s)
    ∙ ap (code_by db m q source) (sym d)

-- a prefix from the reader tells as a plus sign does
pub plus_by_prefix : {X : Type 0} (text : X → List ℕ) (x : Option X) (found : List ℕ → Option (ℕ × ℕ)) (n : List ℕ) (p : Option (List ℕ)) →
    option_map text x ≡ option_map norm p → IsSome x → (dialled found n p).source ≡ Plus
plus_by_prefix text None found n p e some = absurd (false≢true some)
plus_by_prefix text (Some x) found n None e some = cc
plus_by_prefix text (Some x) found n (Some p) e some = refl

-- the prefix of a number by its normalised one
pub prefix_of-read : (p : Option (List ℕ)) (code : ℕ) → unwrap_or (option_map norm p) (decimal code) ≡ prefix_of p code
prefix_of-read None code = refl
prefix_of-read (Some p) code = refl

-- without a prefix, and from another source than the hint, the front of the digits tells
pub code_by-front : (db : List Metadata) (m : Option Metadata) (source : Source) (digits : List ℕ) → ¬ (source ≡ Default) →
    code_by db m None source digits ≡ with_three digits (code_by_front db source digits)
code_by-front db m Plus digits other = refl
code_by-front db m Idd digits other = refl
code_by-front db m Number digits other = refl
code_by-front db m Default digits other = absurd (other refl)

pub is_coded_again : (c : Coded) (a b : List ℕ) (x y : Option (List ℕ)) (n m r : Parts) → a ≡ b → x ≡ y → n.carrier ≡ m.carrier → IsCoded c a x n r → IsCoded c b y m r
is_coded_again c a b x y n m r ea ex en h = record {
  country = h.country;
  national = h.national;
  prefix = h.prefix ∙ ea;
  extension = h.extension ∙ ex;
  carrier = h.carrier ∙ en;
}

-- without a territory of the hint the code is told by something else, and no refusal is want of memory
abbrev pub IsTold : Result Coded ParseError → Type 0
IsTold r = MatchResult r (λ c. ¬ (c.source ≡ Default)) (λ e. ¬ (e ≡ Memory))

with_three-told : (digits : List ℕ) (r : Result Coded ParseError) → IsTold r → IsTold (with_three digits r)
with_three-told digits r told = cond_both (nat_le (length digits) 2) (Err TooShortNsn) r IsTold (λ t m. cc) (λ f. told)

prefix-told : (db : List Metadata) (p digits : List ℕ) → IsTold (code_by_prefix db p digits)
prefix-told db p digits = at (number_in 16 p)
  where
    at : (o : Option ℕ) →
        IsTold (option_map_or (λ code. if is_listed code db then Ok (record { source = Plus; value = code; rest = digits }) else Err InvalidCountryCode) o (Err MalformedInteger))
    at None = λ m. cc
    at (Some code) = cond_both (is_listed code db) (Ok (record { source = Plus; value = code; rest = digits })) (Err InvalidCountryCode) IsTold (λ t d. cc) (λ f m. cc)

front-told : (db : List Metadata) (source : Source) (digits : List ℕ) → ¬ (source ≡ Default) → IsTold (code_by_front db source digits)
front-told db source digits other = at (shortest db digits)
  where
    at : (o : Option ℕ) → IsTold (option_map_or (λ code. Ok (record { source = source; value = code; rest = drop (length (decimal code)) digits })) o (Err InvalidCountryCode))
    at None = λ m. cc
    at (Some code) = other

code_by-told : (db : List Metadata) (q : Option (List ℕ)) (source : Source) (digits : List ℕ) → IsTold (code_by db None q source digits)
code_by-told db (Some p) source digits = with_three-told digits (code_by_prefix db p digits) (prefix-told db p digits)
code_by-told db None Plus digits = with_three-told digits (code_by_front db Plus digits) (front-told db Plus digits (λ d. cc))
code_by-told db None Idd digits = with_three-told digits (code_by_front db Idd digits) (front-told db Idd digits (λ d. cc))
code_by-told db None Number digits = with_three-told digits (code_by_front db Number digits) (front-told db Number digits (λ d. cc))
code_by-told db None Default digits = λ m. cc

pub code_of-told : (db : List Metadata) (hint : Option Id) (n : List ℕ) (p : Option (List ℕ)) → hinted db hint ≡ None → IsTold (code_of db hint n p)
code_of-told db hint n p none =
    let d = dialled_under db hint n p in
    subst (λ m. IsTold (code_by db m (option_map norm p) d.source d.digits)) (sym none) (code_by-told db (option_map norm p) d.source d.digits)

-- so no answer is refused for memory that is refused as its code is
pub not_memory : {T : Type 0} (r : Result T ParseError) (code told : Result Coded ParseError) → IsTold code → code ≡ told →
    IfErr r (λ e. told ≡ Err e) → ¬ (r ≡ Err Memory)
not_memory r code told found same refused memory =
    let by_memory : told ≡ Err Memory = subst (λ r. IfErr r (λ e. told ≡ Err e)) memory refused in
    subst IsTold (same ∙ by_memory) found refl

-- two answers that one step gave: what is found is found by both, and refused by both
pub ok_both : {S T E : Type 0} (a : Result S E) (b : Result T E) (r : Result ℕ E) (f : ℕ → S) (g : ℕ → T) (P Q : T → S → Type 0) →
    a ≡ result_map_both f (λ e. e) r → b ≡ result_map_both g (λ e. e) r → ((n : ℕ) → P (g n) (f n)) → ((n : ℕ) → Q (g n) (f n)) →
    IfOk a (λ x. (y : T) × (b ≡ Ok y) × P y x × Q y x)
ok_both {S} {T} a b (Ok n) f g P Q ea eb p q = subst (λ a. IfOk a (λ x. (y : T) × (b ≡ Ok y) × P y x × Q y x)) (sym ea) (g n, eb, p n, q n)
ok_both {S} {T} a b (Err e) f g P Q ea eb p q = subst (λ a. IfOk a (λ x. (y : T) × (b ≡ Ok y) × P y x × Q y x)) (sym ea) tt

pub err_both : {S T E : Type 0} (a : Result S E) (b : Result T E) (r : Result ℕ E) (f : ℕ → S) (g : ℕ → T) →
    a ≡ result_map_both f (λ e. e) r → b ≡ result_map_both g (λ e. e) r → IfErr a (λ e. b ≡ Err e)
err_both a b (Ok n) f g ea eb = subst (λ a. IfErr a (λ e. b ≡ Err e)) (sym ea) tt
err_both a b (Err e) f g ea eb = subst (λ a. IfErr a (λ e. b ≡ Err e)) (sym ea) eb

-- what holds of all that a step makes
pub ok_made : {S E : Type 0} (a : Result S E) (r : Result ℕ E) (f : ℕ → S) (P : S → Type 0) →
    a ≡ result_map_both f (λ e. e) r → ((n : ℕ) → P (f n)) → IfOk a P
ok_made a (Ok n) f P ea h = subst (λ a. IfOk a P) (sym ea) (h n)
ok_made a (Err e) f P ea h = subst (λ a. IfOk a P) (sym ea) tt
