-- Lists that are read item by item.
use Rattle.phone_compact.specs.Unique.{items_unique}
use Rattle.std.proofs.Common.{◌≡◌, ◌∙◌, sym, ap, ◌⊎◌, inl, inr, List, ℕ, [], ◌∷◌, ◌++◌, append_assoc, Bool, true, false}
use Rattle.std.proofs.lemmas.List.{append-nil}
use Rattle.phone_compact.specs.Forms.{Form, IsUnique, truth, truth_written, items}
use Rattle.phone_compact.specs.Refusals.{IsRefused, BeginsNone, IsNoList}
use Rattle.phone_compact.specs.declared.error.NotRead.{NotRead}
use Rattle.phone_compact.specs.declared.error.NotRead.TheVariants as error

-- what comes next goes on the items so far
abbrev pub GoesOn : {A : Type 0} → Form A → List ℕ → List A → List ℕ → Type 0
GoesOn {A} form whole xs now = (ys : List A) (rest : List ℕ) →
    now ≡ (items form).written ys ++ rest → whole ≡ (items form).written (xs ++ ys) ++ rest

-- of a whole list, an end is to come
abbrev pub IsToCome : {A : Type 0} → Form A → List ℕ → List ℕ → Type 0
IsToCome {A} form whole now = (xs : List A) (rest : List ℕ) → (items form).holds xs →
    whole ≡ (items form).written xs ++ rest →
    (ys : List A) × ((items form).holds ys × (now ≡ (items form).written ys ++ rest))

pub goes_on_at_start : {A : Type 0} (form : Form A) (whole : List ℕ) → GoesOn form whole [] whole
goes_on_at_start form whole ys rest e = e

pub to_come_at_start : {A : Type 0} (form : Form A) (whole : List ℕ) → IsToCome form whole whole
to_come_at_start form whole xs rest held e = (xs, (held, e))

-- a truth value that was read is a byte
pub marked : (b : Bool) (now after : List ℕ) → b ≡ true → now ≡ truth_written b ++ after →
    now ≡ 1 ∷ after
marked true now after is e = e
marked false now after is e = cc

pub unmarked : (b : Bool) (now after : List ℕ) → b ≡ false → now ≡ truth_written b ++ after →
    now ≡ 0 ∷ after
unmarked false now after is e = e
unmarked true now after is e = cc

module _ {A : Type 0} (form : Form A) (whole : List ℕ) (now : List ℕ) where
  pub goes_on_to_end : (xs : List A) (after : List ℕ) → GoesOn form whole xs now → now ≡ 0 ∷ after →
      whole ≡ (items form).written xs ++ after
  goes_on_to_end xs after goes e =
      goes [] after e ∙ ap (λ zs. (items form).written zs ++ after) (append-nil xs)

  pub goes_on_past : (xs zs : List A) (x : A) (mid after : List ℕ) → zs ≡ xs ++ x ∷ [] →
      GoesOn form whole xs now → now ≡ 1 ∷ mid → mid ≡ form.written x ++ after →
      GoesOn form whole zs after
  goes_on_past xs zs x mid after pushed goes e item ys rest h =
      let next : mid ≡ (form.written x ++ (items form).written ys) ++ rest =
      item ∙ (ap (λ bs. form.written x ++ bs) h ∙ sym (append_assoc (form.written x) ((items form).written ys) rest)) in
      let all : xs ++ (x ∷ ys) ≡ zs ++ ys = sym (append_assoc xs (x ∷ []) ys) ∙ sym (ap (λ vs. vs ++ ys) pushed) in
      goes (x ∷ ys) rest (e ∙ ap (λ bs. 1 ∷ bs) next) ∙ ap (λ vs. (items form).written vs ++ rest) all

  past : IsUnique form → (ys : List A) (x : A) (mid after rest : List ℕ) → (items form).holds ys →
      now ≡ (items form).written ys ++ rest → now ≡ 1 ∷ mid → mid ≡ form.written x ++ after →
      (zs : List A) × ((items form).holds zs × (after ≡ (items form).written zs ++ rest))
  past unique [] x mid after rest held h e item =
      let none : 0 ∷ rest ≡ 1 ∷ mid = sym h ∙ e in
      cc
  past unique (y ∷ ys) x mid after rest held h e item =
      let both : 1 ∷ mid ≡ 1 ∷ ((form.written y ++ (items form).written ys) ++ rest) = sym e ∙ h in
      let tails : mid ≡ (form.written y ++ (items form).written ys) ++ rest = cc in
      let one : form.written x ++ after ≡ form.written y ++ ((items form).written ys ++ rest) =
      sym item ∙ (tails ∙ append_assoc (form.written y) ((items form).written ys) rest) in
      (ys, (held.1, (unique x y after ((items form).written ys ++ rest) one).1))

  pub to_come_past : IsUnique form → (x : A) (mid after : List ℕ) → IsToCome form whole now →
      now ≡ 1 ∷ mid → mid ≡ form.written x ++ after → IsToCome form whole after
  to_come_past unique x mid after to_come e item xs rest held h =
      let (ys, (ys_held, next)) = to_come xs rest held h in
      past unique ys x mid after rest ys_held next e item

  no_mark : (ys : List A) (rest : List ℕ) → BeginsNone truth now → now ≡ (items form).written ys ++ rest →
      ⊥
  no_mark [] rest none h = none false rest tt h
  no_mark (y ∷ ys) rest none h = none true ((form.written y ++ (items form).written ys) ++ rest) tt h

  -- it isn't told whether an item comes
  pub refused_at_mark : (e : NotRead) → IsToCome form whole now → IsRefused truth now e →
      IsRefused (items form) whole e
  refused_at_mark e to_come (inl memory) = inl memory
  refused_at_mark e to_come (inr none) = inr (λ xs rest held h.
      let (ys, (ys_held, next)) = to_come xs rest held h in
      no_mark ys rest none next)

  no_item : (ys : List A) (mid rest : List ℕ) → (items form).holds ys → BeginsNone form mid →
      now ≡ 1 ∷ mid → now ≡ (items form).written ys ++ rest → ⊥
  no_item [] mid rest held none e h =
      let none : 0 ∷ rest ≡ 1 ∷ mid = sym h ∙ e in
      cc
  no_item (y ∷ ys) mid rest held none e h =
      let both : 1 ∷ mid ≡ 1 ∷ ((form.written y ++ (items form).written ys) ++ rest) = sym e ∙ h in
      let tails : mid ≡ (form.written y ++ (items form).written ys) ++ rest = cc in
      none y ((items form).written ys ++ rest) held.0 (tails ∙ append_assoc (form.written y) ((items form).written ys) rest)

  -- an item is refused
  pub refused_at_item : (e : NotRead) (mid : List ℕ) → IsToCome form whole now → now ≡ 1 ∷ mid →
      IsRefused form mid e → IsRefused (items form) whole e
  refused_at_item e mid to_come is (inl memory) = inl memory
  refused_at_item e mid to_come is (inr none) = inr (λ xs rest held h.
      let (ys, (ys_held, next)) = to_come xs rest held h in
      no_item ys mid rest ys_held none is next)

-- a list that is all of the bytes is refused where one at their head is
pub refused_whole : {A : Type 0} (form : Form A) (bytes : List ℕ) (e : NotRead) →
    IsRefused (items form) bytes e → (e ≡ error.Memory) ⊎ IsNoList form bytes
refused_whole form bytes e (inl memory) = inl memory
refused_whole form bytes e (inr none) = inr (λ xs held h.
    none xs [] held (h ∙ sym (append-nil ((items form).written xs))))

-- something stands after the list
pub not_whole : {A : Type 0} (form : Form A) → IsUnique form → (bytes rest : List ℕ) (ys : List A) →
    bytes ≡ (items form).written ys ++ rest → ¬ (rest ≡ []) → IsNoList form bytes
not_whole form unique bytes rest ys e more xs held h =
    let ends : (items form).written ys ++ rest ≡ (items form).written xs ++ [] =
    sym e ∙ (h ∙ sym (append-nil ((items form).written xs))) in
    more (items_unique form unique ys xs rest [] ends).1
