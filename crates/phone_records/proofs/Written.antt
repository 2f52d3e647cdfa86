-- What members, lists and objects are written as, from what their parts are.
use Rattle.std.proofs.Common.{◌≡◌, ℕ, Bool, true, false, not, cond, List, [], ◌∷◌, ◌++◌, length, map, Option, Some, None, refl, subst, sym, ap, ap₂, ◌∙◌, append_assoc, append-nil, true≢false}
use Rattle.std.proofs.lemmas.Grind.{flat_map-append}
use Rattle.std.proofs.lemmas.List.{length-map}
use Rattle.std.proofs.lemmas.Slice.Eq.{bytes_eq-Decides}
use Rattle.std.specs.List.{flat_map}
use Rattle.std.specs.Str.{bytes_eq}
use Rattle.serde.specs.Event.{Event, Log, Logs, WritesEach, WritesOption, WritesSeq, boolean, text, unsigned, nothing, field_key, seq_begins, seq_ends, map_begins, map_ends}
use Rattle.serde.specs.declared.name.Case.TheVariants.{AsIs}
use Rattle.phone_records.specs.Members.{GrowsBy, Member, WritesMember, given, keys, members_written, number_written, object, sequence, text_written}

pub GrowsBy-one : (old new : Log) (e : Event) → Logs old new e → GrowsBy (e ∷ []) old new
unfolding GrowsBy
GrowsBy-one None new e h = tt
GrowsBy-one (Some es) new e h = h

pub GrowsBy-none : (old new : Log) → new ≡ old → GrowsBy [] old new
unfolding GrowsBy
GrowsBy-none None new h = tt
GrowsBy-none (Some es) new h = h ∙ ap Some (sym (append-nil es))

pub GrowsBy-append : (xs ys : List Event) (old mid new : Log) → GrowsBy xs old mid → GrowsBy ys mid new → GrowsBy (xs ++ ys) old new
unfolding GrowsBy
GrowsBy-append xs ys None mid new h k = tt
GrowsBy-append xs ys (Some es) mid new h k = subst (λ m. GrowsBy ys m new) h k ∙ ap Some (append_assoc es xs ys)

-- from here on: a relation w by which a value is written as the events f
module _ {A : Type 0} (w : A → Log → Log → Type 0) (f : A → List Event) (g : (x : A) (old new : Log) → w x old new → GrowsBy (f x) old new) where
  pub each_written : (xs : List A) (old new : Log) → WritesEach w xs old new → GrowsBy (flat_map f xs) old new
  each_written [] old new h = GrowsBy-none old new h
  each_written (x ∷ xs) old new h = GrowsBy-append (f x) (flat_map f xs) old h.0 new (g x old h.0 h.1) (each_written xs h.0 new h.2)

  pub given_written : (o : Option A) (old new : Log) → WritesOption w o old new → GrowsBy (given f o) old new
  given_written None old new h = GrowsBy-one old new nothing h
  given_written (Some x) old new h = g x old new h

  pub sequence_written : (xs : List A) (old new : Log) → WritesSeq w xs old new → GrowsBy (sequence f xs) old new
  sequence_written xs old new h =
      GrowsBy-append (seq_begins (Some (length xs)) ∷ []) (flat_map f xs ++ seq_ends ∷ []) old h.0 new (GrowsBy-one old h.0 _ h.2)
      (GrowsBy-append (flat_map f xs) (seq_ends ∷ []) h.0 h.1 new (each_written xs h.0 h.1 h.3) (GrowsBy-one h.1 new seq_ends h.4))

  pub member_written : (key : List ℕ) (x : A) (old new : Log) → WritesMember w key x old new → GrowsBy (field_key key AsIs ∷ f x) old new
  member_written key x old new h = GrowsBy-append (field_key key AsIs ∷ []) (f x) old h.0 new (GrowsBy-one old h.0 _ h.1) (g x h.0 new h.2)

pub members-append : (xs ys : List Member) (old mid new : Log) → GrowsBy (members_written xs) old mid → GrowsBy (members_written ys) mid new → GrowsBy (members_written (xs ++ ys)) old new
members-append xs ys old mid new h k =
    subst (λ es. GrowsBy es old new) (sym (flat_map-append (λ (m : Member). field_key m.0 AsIs ∷ m.1) xs ys))
    (GrowsBy-append (members_written xs) (members_written ys) old mid new h k)

pub members-cons : (key : List ℕ) (es rest : List Event) (old mid new : Log) → GrowsBy (field_key key AsIs ∷ es) old mid → GrowsBy rest mid new → GrowsBy ((field_key key AsIs ∷ es) ++ rest) old new
members-cons key es rest old mid new h k = GrowsBy-append (field_key key AsIs ∷ es) rest old mid new h k

pub members-last : (key : List ℕ) (es : List Event) (old new : Log) → GrowsBy (field_key key AsIs ∷ es) old new → GrowsBy ((field_key key AsIs ∷ es) ++ []) old new
members-last key es old new h = members-cons key es [] old new new h (GrowsBy-none new new refl)

pub object_written : (ms : List Member) (n : ℕ) (old first last new : Log) → n ≡ length ms → Logs old first (map_begins (Some n)) → GrowsBy (members_written ms) first last → Logs last new map_ends → GrowsBy (object ms) old new
object_written ms n old first last new e begun written ended =
    GrowsBy-append (map_begins (Some (length ms)) ∷ []) (members_written ms ++ map_ends ∷ []) old first new
    (GrowsBy-one old first _ (subst (λ k. Logs old first (map_begins (Some k))) e begun))
    (GrowsBy-append (members_written ms) (map_ends ∷ []) first last new written (GrowsBy-one last new map_ends ended))

same_or_left_out : (b : Bool) (key : List ℕ) (v w : List Event) (xs ys : List Member) → (b ≡ false → v ≡ w) → xs ≡ ys → cond (not b) ((key, v) ∷ xs) xs ≡ cond (not b) ((key, w) ∷ ys) ys
same_or_left_out true key v w xs ys h k = k
same_or_left_out false key v w xs ys h k = ap₂ (λ (u : List Event) (zs : List Member). (key, u) ∷ zs) (h refl) k

-- members that are the same but for those of a name: one more in front
pub but_for-cons : (name key : List ℕ) (v w : List Event) (xs ys : List Member) → (¬ (key ≡ name) → v ≡ w) → xs ≡ ys → cond (not (bytes_eq key name)) ((key, v) ∷ xs) xs ≡ cond (not (bytes_eq key name)) ((key, w) ∷ ys) ys
but_for-cons name key v w xs ys h k =
    same_or_left_out (bytes_eq key name) key v w xs ys
    (λ e. h (λ is. true≢false (sym ((bytes_eq-Decides key name).1 is) ∙ e))) k

-- names that are the keys of members are as many
pub names_count : {A : Type 0} (f : A → List ℕ) (names : List A) (ms : List Member) → map f names ≡ keys ms → length names ≡ length ms
names_count f names ms e = sym (length-map names f) ∙ ap (λ (ks : List (List ℕ)). length ks) e ∙ length-map ms (λ (m : Member). m.0)

pub text_grows : (t : List ℕ) (old new : Log) → Logs old new (text t) → GrowsBy (text_written t) old new
text_grows t old new h = GrowsBy-one old new (text t) h

pub number_grows : (n : ℕ) (old new : Log) → Logs old new (unsigned n) → GrowsBy (number_written n) old new
number_grows n old new h = GrowsBy-one old new (unsigned n) h

pub truth_grows : (b : Bool) (old new : Log) → Logs old new (boolean b) → GrowsBy (boolean b ∷ []) old new
truth_grows b old new h = GrowsBy-one old new (boolean b) h
