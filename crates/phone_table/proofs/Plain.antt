-- The object of a summary has no float, and nests twice.
use Rattle.std.proofs.Common.{◌≡◌, ◌≤◌, ◌||◌, ℕ, Bool, true, false, true≢false, List, [], ◌∷◌, fold, String, Global, string_bytes}
use Rattle.std.proofs.Common.{Result, Ok, Err, IfOk, Ordering, Less, Equal, Greater, refl, arith, codes}
use Rattle.std.specs.Ordering.{match_ordering}
use Rattle.serde_json.specs.Data.{Data, Members, depth, members_depth, no_members, member, number, put, unsigned}
use Rattle.serde_json.specs.Read.{max_depth}
use Rattle.serde_json.specs.Written.{has_float, members_have_float}
use Rattle.phone_table.specs.Objects.{summary_object, tally_object, with_count}
use Rattle.phone_table.specs.Tallies.{Counted}
use Rattle.phone_table.specs.declared.summary.Summary.{Summary}

either_false : (a b : Bool) → a ≡ false → b ≡ false → (a || b) ≡ false
either_false a b p q = rw (p, q) refl

no_float_by : (o : Ordering) (a b c : Members) → members_have_float a ≡ false → members_have_float b ≡ false →
    members_have_float c ≡ false → members_have_float (match_ordering o a b c) ≡ false
no_float_by Less a b c p q r = p
no_float_by Equal a b c p q r = q
no_float_by Greater a b c p q r = r

split_first : (a b : Bool) → (a || b) ≡ false → a ≡ false
split_first false b p = refl
split_first true b p = p

split_rest : (a b : Bool) → (a || b) ≡ false → b ≡ false
split_rest false b p = p
split_rest true b p = absurd (true≢false p)

no_float-put : (k : List ℕ) (d : Data) (ms : Members) → has_float d ≡ false → members_have_float ms ≡ false →
    members_have_float (put k d ms) ≡ false
no_float-put k d no_members p q = either_false _ _ p refl
no_float-put k d (member l e ms) p q =
    no_float_by _ (member k d (member l e ms)) (member l d ms) (member l e (put k d ms))
    (either_false _ _ p q)
    (either_false _ _ p (split_rest _ _ q))
    (either_false _ _ (split_first _ _ q) (no_float-put k d ms p (split_rest _ _ q)))

depth_by : (o : Ordering) (a b c : Members) (n : ℕ) → members_depth a ≤ n → members_depth b ≤ n → members_depth c ≤ n →
    members_depth (match_ordering o a b c) ≤ n
depth_by Less a b c n p q r = p
depth_by Equal a b c n p q r = q
depth_by Greater a b c n p q r = r

depth-put : (k : List ℕ) (d : Data) (ms : Members) (n : ℕ) → depth d ≤ n → members_depth ms ≤ n → members_depth (put k d ms) ≤ n
depth-put k d no_members n p q = omega arith
depth-put k d (member l e ms) n p q =
    depth_by _ (member k d (member l e ms)) (member l d ms) (member l e (put k d ms)) n (omega arith) (omega arith)
    (omega (arith, depth-put k d ms n p (omega arith)))

no_float-counts : (es : List (String Global × ℕ)) (ms : Members) → members_have_float ms ≡ false →
    members_have_float (fold with_count ms es) ≡ false
no_float-counts [] ms p = p
no_float-counts (e ∷ es) ms p = no_float-counts es (with_count ms e) (no_float-put (string_bytes e.0) (number (unsigned e.1)) ms refl p)

depth-counts : (es : List (String Global × ℕ)) (ms : Members) → members_depth ms ≤ 0 → members_depth (fold with_count ms es) ≤ 0
depth-counts [] ms p = p
depth-counts (e ∷ es) ms p = depth-counts es (with_count ms e) (depth-put (string_bytes e.0) (number (unsigned e.1)) ms 0 (omega arith) p)

tally_is_plain : (t : Counted) → has_float (tally_object t) ≡ false
tally_is_plain t = no_float-counts t.entries no_members refl

tally_nests : (t : Counted) → depth (tally_object t) ≤ 1
tally_nests t = omega (arith, depth-counts t.entries no_members (omega arith))

abbrev types_in : Summary → Members
types_in s = put (codes "types") (tally_object s.kinds) no_members

abbrev regions_in : Summary → Members
regions_in s = put (codes "regions") (tally_object s.regions) (types_in s)

abbrev refusals_in : Summary → Members
refusals_in s = put (codes "refusals") (tally_object s.refusals) (regions_in s)

pub no_float : (s : Summary) → has_float (summary_object s) ≡ false
no_float s = no_float-put (codes "suspicions") (tally_object s.suspicions) (refusals_in s) (tally_is_plain s.suspicions)
    (no_float-put (codes "refusals") (tally_object s.refusals) (regions_in s) (tally_is_plain s.refusals)
    (no_float-put (codes "regions") (tally_object s.regions) (types_in s) (tally_is_plain s.regions)
    (no_float-put (codes "types") (tally_object s.kinds) no_members (tally_is_plain s.kinds) refl)))

nests : (s : Summary) → members_depth (put (codes "suspicions") (tally_object s.suspicions) (refusals_in s)) ≤ 1
nests s = depth-put (codes "suspicions") (tally_object s.suspicions) (refusals_in s) 1 (tally_nests s.suspicions)
    (depth-put (codes "refusals") (tally_object s.refusals) (regions_in s) 1 (tally_nests s.refusals)
    (depth-put (codes "regions") (tally_object s.regions) (types_in s) 1 (tally_nests s.regions)
    (depth-put (codes "types") (tally_object s.kinds) no_members 1 (tally_nests s.kinds) (omega arith))))

pub shallow : (s : Summary) → depth (summary_object s) ≤ max_depth
shallow s = omega (arith, nests s)

-- what an answer says under a premise that holds
pub ok_given : {T E : Type 0} (r : Result T E) (P : Type 0) (Q : T → Type 0) → P → IfOk r (λ x. P → Q x) → IfOk r Q
ok_given (Ok x) P Q p q = q p
ok_given (Err e) P Q p q = tt
