-- The grammar's steps over parts without parts of their own.
use Rattle.std.proofs.Common.{◌≡◌, ◌≤◌, ◌<◌, ◌+◌, ◌*◌, ◌∙◌, ◌&&◌, ℕ, Bool, true, false, List, [], ◌∷◌, length, refl, sym, arith, ne_eqb, lt-ltb, ⊎_elim}
use Rattle.std.proofs.lemmas.Bool.Decides.{nat_tests}
use Rattle.std.proofs.lemmas.Bool.{cases_lt}
use Rattle.std.specs.Bool.{beq}
use Rattle.std.specs.Char.{encode_utf8}
use mathlib.Core.Path.{fun_ext}
use Rattle.regex_class.specs.Ranges.{IsCanonical, rises_from, Range, in_range, in_ranges, HasExactly}
use Rattle.regex_class.specs.declared.Class.{Class}
use Rattle.regex_hir.specs.declared.hir.Hir.{Hir}
use Rattle.regex_hir.specs.declared.hir.Hir.TheVariants.{Bytes}
use Rattle.regex_hir.specs.declared.look.Look.TheVariants.{End}
use Rattle.regex_hir.proofs.MeaningLemmas.{meaning-Bytes}
use Rattle.regex_hir.specs.Meaning.{meaning}
use Rattle.regex_hir.specs.Re.{Re, literal, byte_in, char_in, look}
use Rattle.regex_syntax.proofs.SetLemmas.{in_ranges-members, member_fits}
use Rattle.regex_syntax.proofs.TreeLaws.{byte_in_ascii, ◌then◌, same_sym}
use Rattle.regex_syntax.proofs.Written.{class_is}
use Rattle.regex_syntax.specs.Brackets.{flat}
use Rattle.regex_syntax.specs.Escapes.{escape, one_letter}
use Rattle.regex_syntax.specs.Grammar.{atom, item, char_meaning, piece_meaning}
use Rattle.regex_syntax.specs.Reading.{Text, first}
use Rattle.regex_syntax.specs.Same.{SameTree}
use Rattle.regex_syntax.specs.Sets.{one_of, members, verbatim, negate_if, Set}
use Rattle.ucd_perl.proofs.Computing.{ucd_perl}
use Rattle.ucd_perl.specs.Perl.{is_digit_char}
use Rattle.ucd_perl.proofs.PerlLemmas.{is_digit_char_stepped}
use Rattle.ucd_table.proofs.Facts.{Stepped-below, same_from_beq}
use Rattle.phone_automaton.proofs.Alike.{ascii_chars, ascii_refl}
use Rattle.phone_automaton.specs.Ascii.{AsciiSame, in_ascii}
use Rattle.phone_plain.specs.Atoms.{IsAtom}
use Rattle.phone_plain.specs.Classes.{IsClass, AreDigits}
use Rattle.phone_plain.specs.Reads.{IsUnit}
use Rattle.phone_plain.specs.declared.cursor.Cursor.{Cursor}

in_first : (c : ℕ) → c < 128 → in_ranges ((0, 127) ∷ []) c ≡ true
unfolding in_ranges in_range
in_first c h = grind (arith, nat_tests)

past_first : (c : ℕ) → 128 ≤ c → in_ranges ((0, 127) ∷ []) c ≡ false
unfolding in_ranges in_range
past_first c h = grind (arith, nat_tests)

past_digits : (c : ℕ) → 128 ≤ c → in_ranges ((48, 57) ∷ []) c ≡ false
unfolding in_ranges in_range
past_digits c h = grind (arith, nat_tests)

and-true : (b : Bool) → (b && true) ≡ b
and-true true = refl
and-true false = refl

and-false : (b : Bool) → (b && false) ≡ false
and-false true = refl
and-false false = refl

pub of_same : (a b : Re) → SameTree a b → AsciiSame a b
of_same a b p hay ok = fun_ext (λ k. fun_ext (λ i. p.matches.at hay (λ n x h. let small = ok n x h in omega arith) k i))

-- a class of digits as one of bytes
pub bytes_same : (rs : List Range) (set : Set) → AreDigits rs → HasExactly rs set → AsciiSame (byte_in rs) (char_in (members set))
bytes_same rs set digits exact =
    of_same _ _ (byte_in_ascii rs (λ c h. let d = digits c h in omega (arith, d.1)) then same_sym (class_is set rs exact))

digit_char : (c : ℕ) → c < 128 → is_digit_char c ≡ in_ranges ((48, 57) ∷ []) c
unfolding ucd_perl in_ranges in_range
digit_char c h =
    same_from_beq _ _ (Stepped-below is_digit_char is_digit_char_stepped (λ x v. beq v (in_ranges ((48, 57) ∷ []) x)) 128 refl c h)

small : (c : ℕ) → in_ranges ((48, 57) ∷ []) c ≡ true → (48 ≤ c) × (c ≤ 57)
unfolding in_ranges in_range
small c h = (grind (arith, nat_tests), grind (arith, nat_tests))

low_digit : (c : ℕ) → c < 128 → in_ranges ((48, 57) ∷ []) c ≡ in_ascii (members is_digit_char) c
low_digit c low =
    let first : in_ranges ((0, 127) ∷ []) c ≡ true = in_first c low in
    rw (in_ranges-members, digit_char c low, lt-ltb c 0x11_0000 (omega arith), first) (sym (and-true _))

high_digit : (c : ℕ) → 128 ≤ c → in_ranges ((48, 57) ∷ []) c ≡ in_ascii (members is_digit_char) c
high_digit c high = rw (past_first c high, past_digits c high) (sym (and-false _))

digit_in_ascii : (c : ℕ) → in_ranges ((48, 57) ∷ []) c ≡ in_ascii (members is_digit_char) c
digit_in_ascii c = ⊎_elim (low_digit c) (high_digit c) (cases_lt c 128)

digits_are : (class : Class) → HasExactly class.ranges.items (in_ranges ((48, 57) ∷ [])) → AreDigits class.ranges.items
digits_are class exact c h = small c (sym (exact c (member_fits class c h)) ∙ h)

pub digits_same : (class : Class) → HasExactly class.ranges.items (in_ranges ((48, 57) ∷ [])) → AsciiSame (byte_in class.ranges.items) (char_in (members is_digit_char))
digits_same class exact hay ok =
    of_same _ _ (byte_in_ascii class.ranges.items (λ c h. let d = digits_are class exact c h in omega (arith, d.1))) hay ok
    ∙ ascii_chars class.ranges.items (members is_digit_char) (λ c le. exact c le ∙ digit_in_ascii c) hay ok

-- what follows stands for the part that is read of this text
pub digit_read : (text rest : Text) (c : ℕ) (hir : Hir) → text ≡ c ∷ rest → 48 ≤ c → c ≤ 57 → meaning hir ≡ literal (c ∷ []) → IsAtom text hir rest
unfolding atom first char_meaning verbatim encode_utf8
digit_read text rest c hir e low high is = record {
  part = flat (literal (c ∷ []));
  matches = rw is (ascii_refl (literal (c ∷ [])));
  no_groups = refl;
  no_group = rw e (ne_eqb c 40 (omega arith));
  goes_on = rw e (omega arith);
  reads = rw (e, ne_eqb c 63 (omega arith), ne_eqb c 42 (omega arith), ne_eqb c 43 (omega arith), ne_eqb c 123 (omega arith), ne_eqb c 91 (omega arith), ne_eqb c 92 (omega arith), ne_eqb c 46 (omega arith), ne_eqb c 94 (omega arith), ne_eqb c 36 (omega arith), lt-ltb c 128 (omega arith)) refl;
}

pub end_read : (text rest : Text) (hir : Hir) → text ≡ 36 ∷ rest → meaning hir ≡ look End → IsAtom text hir rest
unfolding atom first char_meaning
end_read text rest hir e is = record {
  part = flat (look End);
  matches = rw is (ascii_refl (look End));
  no_groups = refl;
  no_group = rw e refl;
  goes_on = rw e (omega arith);
  reads = rw e refl;
}

pub any_digit_read : (text mid rest : Text) (class : Class) → text ≡ 92 ∷ mid → mid ≡ 100 ∷ rest →
    HasExactly class.ranges.items (in_ranges ((48, 57) ∷ [])) → IsAtom text (Bytes class) rest
unfolding atom first escape one_letter negate_if piece_meaning one_of
any_digit_read text mid rest class e f exact = record {
  part = flat (char_in (members is_digit_char));
  matches = rw (meaning-Bytes class) (digits_same class exact);
  no_groups = refl;
  no_group = rw e refl;
  goes_on = rw (e, f) (omega arith);
  reads = rw (e, f) refl;
}

pub class_atom : (text mid rest : Text) (class : Class) → text ≡ 91 ∷ mid → IsClass mid class rest → IsAtom text (Bytes class) rest
unfolding atom first one_of
class_atom text mid rest class e is = record {
  part = record { value = char_in (members is.members.value); depth = is.members.depth };
  matches = rw (meaning-Bytes class) (bytes_same class.ranges.items is.members.value is.digits is.exact);
  no_groups = refl;
  no_group = rw e refl;
  goes_on = rw e (omega (arith, is.goes_on));
  reads = (let enough : 2 * length mid + 3 ≤ 2 * length (91 ∷ mid) + 1 = omega arith in rw (e, is.reads (2 * length (91 ∷ mid) + 1) enough) refl);
}

pub atom_unit : (from to : Cursor) (hir : Hir) → IsAtom from.rest.now hir to.rest.now → to.groups ≡ from.groups → IsUnit from hir to
unfolding item
atom_unit from to hir is kept = record {
  part = is.part;
  stands = record { matches = is.matches; groups = rw (is.no_groups, kept) (omega arith) };
  goes_on = is.goes_on;
  reads = λ n le. rw (is.no_group, is.reads, kept) refl;
}

pub one_range_rises : (rs : List Range) → rs ≡ (48, 57) ∷ [] → IsCanonical rs
unfolding rises_from
one_range_rises rs e = rw e refl
