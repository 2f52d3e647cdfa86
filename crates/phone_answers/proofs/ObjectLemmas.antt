-- An object of a line has no float, and nests once.
use Rattle.std.proofs.Common.{◌≡◌, ◌≤◌, ℕ, List, Option, false, Result, Ok, Err, IfOk, refl, arith}
use Rattle.serde_json.specs.Data.{Data, depth, null, string}
use Rattle.serde_json.specs.Read.{max_depth}
use Rattle.serde_json.specs.Written.{has_float}
use Rattle.phone_values.specs.declared.country.Id.{Id}
use Rattle.phone_records.specs.declared.loader.Metadata.{Metadata}
use Rattle.phone_values.specs.declared.rules.Rules.{Rules}
use Rattle.phone_answers.specs.Objects.{IsObject, members_of}
use Rattle.phone_answers.specs.Objects.IsObject.{no_text, of_text}
use Rattle.phone_answers.specs.declared.extra.Extra.{Extra}
use Rattle.phone_answers.proofs.BesideLemmas.{told_flat, told_plain}

pub no_float : (rules : Rules) (db : List Metadata) (short : Option (List Metadata)) (extra : List Extra) (hint : Option Id) (place : ℕ) (line : List ℕ) (d : Data) →
    IsObject rules db short extra hint place line d → has_float d ≡ false
no_float rules db short extra hint place line _ (no_text n fields told h a t) = told_plain extra told (members_of rules db place null n fields) refl
no_float rules db short extra hint place line _ (of_text n fields told h a t) = told_plain extra told (members_of rules db place (string line) n fields) refl

pub shallow : (rules : Rules) (db : List Metadata) (short : Option (List Metadata)) (extra : List Extra) (hint : Option Id) (place : ℕ) (line : List ℕ) (d : Data) →
    IsObject rules db short extra hint place line d → depth d ≤ max_depth
shallow rules db short extra hint place line _ (no_text n fields told h a t) =
    omega (arith, told_flat extra told (members_of rules db place null n fields) 0 (omega arith))
shallow rules db short extra hint place line _ (of_text n fields told h a t) =
    omega (arith, told_flat extra told (members_of rules db place (string line) n fields) 0 (omega arith))

-- what two clauses say of one answer
pub ok_both : {T E : Type 0} (r : Result T E) (P Q R : T → Type 0) → ((x : T) → P x → Q x → R x) → IfOk r P → IfOk r Q → IfOk r R
ok_both (Ok x) P Q R f p q = f x p q
ok_both (Err e) P Q R f p q = tt
