-- The trie's nodes: where a text leads once a node or a mark is there more.
use Rattle.std.proofs.Common.{◌≡◌, ◌≢◌, ◌⊎◌, inl, inr, ℕ, ◌+◌, ◌-◌, ◌<◌, ◌≤◌, Bool, true, false, cond, List, [], ◌∷◌, ◌++◌, length, get_or, set, reverse, Option, Some, None, refl, ap, sym, subst, ◌∙◌, arith, length-append, length-set, get_or-set_same, get_or-set_other}
use Rattle.std.proofs.Math.Seq.{get_or-append_seam}
use Rattle.std.proofs.lemmas.List.{get_or_append_left, get_or_default, get_or-replicate, get_or_past}
use Rattle.std.proofs.lemmas.Bool.{cases_eq, cases_lt, cond-false, false≢true, ne_eqb}
use Rattle.std.specs.Char.{is_ascii_digit}
use Rattle.std.specs.Option.{option_and_then}
use Rattle.phone_index.proofs.Texts.{in_range}
use Rattle.phone_prefixes.specs.declared.node.Node.{Node}
use Rattle.phone_prefixes.specs.Nodes.{bare, child_at, mark_at, mark_back, mark_of, node_at, some_mark, some_place, walk, IsGrown, IsTree}

-- a test that both sides make
pub cond_same : (b : Bool) (x y : Option ℕ) → (b ≡ true → x ≡ y) → cond b x None ≡ cond b y None
cond_same true x y f = f refl
cond_same false x y f = refl

cond_none : (b : Bool) (x : Option ℕ) → x ≡ None → cond b x None ≡ None
cond_none true x e = e
cond_none false x e = refl

pub cond_true : (b : Bool) (x y : Option ℕ) → b ≡ true → x ≡ y → cond b x None ≡ y
cond_true true x y b e = e
cond_true false x y b e = absurd (false≢true b)

pub some≢none : {o : Option ℕ} {n : ℕ} → o ≡ Some n → o ≡ None → ⊥
some≢none e f = absurd cc

pub same_some : {o : Option ℕ} {m n : ℕ} → o ≡ Some m → o ≡ Some n → m ≡ n
same_some e f = cc

pub digit_small : (byte : ℕ) → is_ascii_digit byte ≡ true → (48 ≤ byte) × (byte < 58)
digit_small byte e = let r = in_range byte e in (r.0, omega (arith, r.1))

-- ten times nothing
zeros : (n : ℕ) → get_or bare.children n 0 ≡ 0
zeros n = step (cases_lt n 10)
  where
    step : (n < 10) ⊎ (10 ≤ n) → get_or bare.children n 0 ≡ 0
    step (inl less) = get_or-replicate 10 n 0 0 less
    step (inr past) = get_or_past bare.children n 0 past

-- a text's bytes lead on from where those after the first lead
pub walk-Some : (nodes : List Node) (byte : ℕ) (bytes : List ℕ) (place : ℕ) → walk nodes bytes ≡ Some place → walk nodes (byte ∷ bytes) ≡ child_at nodes place byte
walk-Some nodes byte bytes place e = ap (option_and_then (λ p. child_at nodes p byte)) e

pub walk-None : (nodes : List Node) (byte : ℕ) (bytes : List ℕ) → walk nodes bytes ≡ None → walk nodes (byte ∷ bytes) ≡ None
walk-None nodes byte bytes e = ap (option_and_then (λ p. child_at nodes p byte)) e

pub mark_back-Some : (nodes : List Node) (byte : ℕ) (bytes : List ℕ) (place : ℕ) → walk nodes bytes ≡ Some place → mark_back nodes (byte ∷ bytes) ≡ mark_at nodes place byte
mark_back-Some nodes byte bytes place e = ap (option_and_then (λ p. mark_at nodes p byte)) e

pub mark_back-None : (nodes : List Node) (byte : ℕ) (bytes : List ℕ) → walk nodes bytes ≡ None → mark_back nodes (byte ∷ bytes) ≡ None
mark_back-None nodes byte bytes e = ap (option_and_then (λ p. mark_at nodes p byte)) e

-- nothing stands after what leads nowhere
pub walk-past : (nodes : List Node) (more bytes : List ℕ) → walk nodes bytes ≡ None → walk nodes (more ++ bytes) ≡ None
walk-past nodes [] bytes e = e
walk-past nodes (byte ∷ more) bytes e = walk-None nodes byte (more ++ bytes) (walk-past nodes more bytes e)

-- a node whose digit leads to a place
abbrev pub leading : Node → ℕ → ℕ → Node
leading node column place = record node { children = set node.children column place }

-- a node that marks a digit
abbrev pub marking : Node → ℕ → ℕ → Node
marking node column mark = record node { marks = set node.marks column mark }

-- a bare node at the end
abbrev with_bare : List Node → List Node
with_bare old = old ++ bare ∷ []

-- and a digit that leads to it
abbrev pub with_child : List Node → ℕ → ℕ → List Node
with_child old at digit = set (with_bare old) at (leading (node_at (with_bare old) at) (digit - 48) (length old))

module _ (old : List Node) (at digit : ℕ) (tree : IsTree old) (inside : at < length old) (is : is_ascii_digit digit ≡ true) (free : child_at old at digit ≡ None) where
  abbrev last : ℕ
  last = length old

  abbrev new : List Node
  new = with_child old at digit

  column : digit - 48 < 10
  column = let d = digit_small digit is in omega (arith, d.0, d.1)

  wider : length (with_bare old) ≡ length old + 1
  wider = length-append old (bare ∷ [])

  counted : length new ≡ length old + 1
  counted = length-set (with_bare old) at _ ∙ wider

  before : (k : ℕ) → k < last → node_at (with_bare old) k ≡ node_at old k
  before k less = get_or_append_left old (bare ∷ []) bare k less

  at_it : node_at new at ≡ leading (node_at old at) (digit - 48) last
  at_it = get_or-set_same (with_bare old) at _ bare (omega (arith, inside, wider)) ∙ ap (λ n. leading n (digit - 48) last) (before at inside)

  elsewhere : (k : ℕ) → k < last → k ≢ at → node_at new k ≡ node_at old k
  elsewhere k less other = get_or-set_other (with_bare old) at k _ bare other ∙ before k less

  at_last : node_at new last ≡ bare
  at_last = get_or-set_other (with_bare old) at last _ bare (λ e. absurd (omega (arith, e, inside))) ∙ get_or-append_seam old bare [] bare

  -- what the nodes have for a byte: the new one nothing, the other ones what they had, but for the digit
  child_last : (byte : ℕ) → child_at new last byte ≡ None
  child_last byte = cond_none (is_ascii_digit byte) _ (ap (λ n. some_place (get_or n.children (byte - 48) 0)) at_last ∙ ap some_place (zeros (byte - 48)))

  mark_last : (byte : ℕ) → mark_at new last byte ≡ None
  mark_last byte = cond_none (is_ascii_digit byte) _ (ap (λ n. some_mark (get_or n.marks (byte - 48) 0)) at_last ∙ ap some_mark (zeros (byte - 48)))

  child_here : child_at new at digit ≡ Some last
  child_here = cond_true (is_ascii_digit digit) _ _ is
      (ap (λ n. some_place (get_or n.children (digit - 48) 0)) at_it
      ∙ ap some_place (get_or-set_same (node_at old at).children (digit - 48) last 0 (omega (arith, (tree.widths at inside).0, column)))
      ∙ some last tree.root)
    where
      some : (n : ℕ) → 0 < n → some_place n ≡ Some n
      some n more = grind arith

  child_away : (k byte : ℕ) → k < last → k ≢ at → child_at new k byte ≡ child_at old k byte
  child_away k byte less other = ap (λ n. cond (is_ascii_digit byte) (some_place (get_or n.children (byte - 48) 0)) None) (elsewhere k less other)

  child_beside : (k byte : ℕ) → k ≡ at → byte ≢ digit → child_at new k byte ≡ child_at old k byte
  child_beside k byte e other = cond_same (is_ascii_digit byte) _ _ (λ d.
      let a = digit_small byte d in
      let b = digit_small digit is in
      ap (λ i. some_place (get_or (node_at new i).children (byte - 48) 0)) e
      ∙ ap (λ n. some_place (get_or n.children (byte - 48) 0)) at_it
      ∙ ap some_place (get_or-set_other (node_at old at).children (digit - 48) (byte - 48) last 0 (λ f. other (omega (arith, f, a.0, b.0))))
      ∙ ap (λ i. some_place (get_or (node_at old i).children (byte - 48) 0)) (sym e))

  mark_there : (k byte : ℕ) → k < last → mark_at new k byte ≡ mark_at old k byte
  mark_there k byte less = ap (λ marks. cond (is_ascii_digit byte) (some_mark (get_or marks (byte - 48) 0)) None) (step (cases_eq k at))
    where
      step : (k ≡ at) ⊎ (k ≢ at) → (node_at new k).marks ≡ (node_at old k).marks
      step (inl e) = ap (λ i. (node_at new i).marks) e ∙ ap (λ n. n.marks) at_it ∙ ap (λ i. (node_at old i).marks) (sym e)
      step (inr other) = ap (λ n. n.marks) (elsewhere k less other)

  -- a text leads where it did, or it is the new node's
  record IsNew (text : List ℕ) : Type 0 where
    none : walk old text ≡ None
    rest : List ℕ
    whole : text ≡ digit ∷ rest
    leads : walk old rest ≡ Some at
    new_leads : walk new text ≡ Some last

  by_case : (byte : ℕ) (bytes : List ℕ) (o : Option ℕ) → walk old bytes ≡ o → (walk new bytes ≡ walk old bytes) ⊎ IsNew bytes →
      (walk new (byte ∷ bytes) ≡ walk old (byte ∷ bytes)) ⊎ IsNew (byte ∷ bytes)
  by_case byte bytes None e (inl same) = inl (walk-None new byte bytes (same ∙ e) ∙ sym (walk-None old byte bytes e))
  by_case byte bytes o e (inr it) = inl (walk-Some new byte bytes last it.new_leads ∙ child_last byte ∙ sym (walk-None old byte bytes it.none))
  by_case byte bytes (Some p) e (inl same) = step (cases_eq p at) (cases_eq byte digit)
    where
      less : p < last
      less = tree.inside bytes p e

      to_new : walk new (byte ∷ bytes) ≡ child_at new p byte
      to_new = walk-Some new byte bytes p (same ∙ e)

      to_old : walk old (byte ∷ bytes) ≡ child_at old p byte
      to_old = walk-Some old byte bytes p e

      step : (p ≡ at) ⊎ (p ≢ at) → (byte ≡ digit) ⊎ (byte ≢ digit) → (walk new (byte ∷ bytes) ≡ walk old (byte ∷ bytes)) ⊎ IsNew (byte ∷ bytes)
      step (inr other) b = inl (to_new ∙ child_away p byte less other ∙ sym to_old)
      step (inl a) (inr other) = inl (to_new ∙ child_beside p byte a other ∙ sym to_old)
      step (inl a) (inl b) = inr (record {
        none = to_old ∙ ap (λ i. child_at old i byte) a ∙ ap (child_at old at) b ∙ free;
        rest = bytes;
        whole = ap (λ x. x ∷ bytes) b;
        leads = e ∙ ap Some a;
        new_leads = to_new ∙ ap (λ i. child_at new i byte) a ∙ ap (child_at new at) b ∙ child_here;
      })

  walk_case : (text : List ℕ) → (walk new text ≡ walk old text) ⊎ IsNew text
  walk_case [] = inl refl
  walk_case (byte ∷ bytes) = by_case byte bytes (walk old bytes) refl (walk_case bytes)

  kept : (text : List ℕ) (place : ℕ) → walk old text ≡ Some place → walk new text ≡ Some place
  kept text place e = step (walk_case text)
    where
      step : (walk new text ≡ walk old text) ⊎ IsNew text → walk new text ≡ Some place
      step (inl same) = same ∙ e
      step (inr it) = absurd (some≢none e it.none)

  mark_case : (byte : ℕ) (bytes : List ℕ) (o : Option ℕ) → walk old bytes ≡ o → (walk new bytes ≡ walk old bytes) ⊎ IsNew bytes →
      mark_back new (byte ∷ bytes) ≡ mark_back old (byte ∷ bytes)
  mark_case byte bytes None e (inl same) = mark_back-None new byte bytes (same ∙ e) ∙ sym (mark_back-None old byte bytes e)
  mark_case byte bytes (Some p) e (inl same) = mark_back-Some new byte bytes p (same ∙ e) ∙ mark_there p byte (tree.inside bytes p e) ∙ sym (mark_back-Some old byte bytes p e)
  mark_case byte bytes o e (inr it) = mark_back-Some new byte bytes last it.new_leads ∙ mark_last byte ∙ sym (mark_back-None old byte bytes it.none)

  marks : (text : List ℕ) → mark_back new text ≡ mark_back old text
  marks [] = refl
  marks (byte ∷ bytes) = mark_case byte bytes (walk old bytes) refl (walk_case bytes)

  tree_inside : (text : List ℕ) (place : ℕ) → walk new text ≡ Some place → place < length new
  tree_inside text place e = step (walk_case text)
    where
      step : (walk new text ≡ walk old text) ⊎ IsNew text → place < length new
      step (inl same) = let less = tree.inside text place (sym same ∙ e) in omega (arith, less, counted)
      step (inr it) = let at' : place ≡ last = same_some e it.new_leads in omega (arith, at', counted)

  apart : (a b : List ℕ) (place : ℕ) → walk new a ≡ Some place → walk new b ≡ Some place → a ≡ b
  apart a b place e f = step (walk_case a) (walk_case b)
    where
      differ : (u v : List ℕ) → walk new u ≡ Some place → walk new v ≡ Some place → walk new u ≡ walk old u → IsNew v → ⊥
      differ u v g h same it = let less = tree.inside u place (sym same ∙ g) in let at' : place ≡ last = same_some h it.new_leads in omega (arith, less, at')

      step : (walk new a ≡ walk old a) ⊎ IsNew a → (walk new b ≡ walk old b) ⊎ IsNew b → a ≡ b
      step (inl s) (inl t) = tree.apart a b place (sym s ∙ e) (sym t ∙ f)
      step (inl s) (inr it) = absurd (differ a b e f s it)
      step (inr it) (inl t) = absurd (differ b a f e t it)
      step (inr it) (inr other) = it.whole ∙ ap (λ bytes. digit ∷ bytes) (tree.apart it.rest other.rest at it.leads other.leads) ∙ sym other.whole

  widths : (k : ℕ) → k < length new → (length (node_at new k).children ≡ 10) × (length (node_at new k).marks ≡ 10)
  widths k less = step (cases_lt k last) (cases_eq k at)
    where
      step : (k < last) ⊎ (last ≤ k) → (k ≡ at) ⊎ (k ≢ at) → (length (node_at new k).children ≡ 10) × (length (node_at new k).marks ≡ 10)
      step (inl earlier) (inl e) = subst (λ i. (length (node_at new i).children ≡ 10) × (length (node_at new i).marks ≡ 10)) (sym e)
          (ap (λ n. length n.children) at_it ∙ length-set (node_at old at).children (digit - 48) last ∙ (tree.widths at inside).0, ap (λ n. length n.marks) at_it ∙ (tree.widths at inside).1)
      step (inl earlier) (inr other) = let w = tree.widths k earlier in (ap (λ n. length n.children) (elsewhere k earlier other) ∙ w.0, ap (λ n. length n.marks) (elsewhere k earlier other) ∙ w.1)
      step (inr later) b =
          let e : k ≡ last = omega (arith, less, later, counted) in
          (ap (λ i. length (node_at new i).children) e ∙ ap (λ n. length n.children) at_last, ap (λ i. length (node_at new i).marks) e ∙ ap (λ n. length n.marks) at_last)

  -- the tree is one with the new node
  pub child_grown : IsGrown old new
  child_grown = record {
    tree = record { root = omega (arith, counted); inside = tree_inside; apart = apart; widths = widths };
    kept = kept;
    marks = marks;
  }

  pub child_leads : (text : List ℕ) → walk old text ≡ Some at → walk new (digit ∷ text) ≡ Some last
  child_leads text e = walk-Some new digit text at (kept text at e) ∙ child_here

-- nothing changes
pub grown_none : (nodes : List Node) → IsTree nodes → IsGrown nodes nodes
grown_none nodes tree = record { tree = tree; kept = λ text place e. e; marks = λ text. refl }

-- a tree that grows twice
pub grown_trans : (old mid new : List Node) → IsGrown old mid → IsGrown mid new → IsGrown old new
grown_trans _ _ _ a b = record {
  tree = b.tree;
  kept = λ text place e. b.kept text place (a.kept text place e);
  marks = λ text. b.marks text ∙ a.marks text;
}

-- a tree of its root alone
pub is_root : (nodes : List Node) → nodes ≡ bare ∷ [] → IsTree nodes
is_root nodes e = subst IsTree (sym e) root
  where
    no_child : (byte : ℕ) → child_at (bare ∷ []) 0 byte ≡ None
    no_child byte = cond_none (is_ascii_digit byte) _ (ap some_place (zeros (byte - 48)))

    nowhere : (byte : ℕ) (bytes : List ℕ) → walk (bare ∷ []) (byte ∷ bytes) ≡ None
    nowhere byte [] = no_child byte
    nowhere byte (b ∷ bytes) = walk-None (bare ∷ []) byte (b ∷ bytes) (nowhere b bytes)

    inside : (text : List ℕ) (place : ℕ) → walk (bare ∷ []) text ≡ Some place → place < 1
    inside [] place f = let z : place ≡ 0 = same_some f refl in omega (arith, z)
    inside (byte ∷ bytes) place f = absurd (some≢none f (nowhere byte bytes))

    apart : (a b : List ℕ) (place : ℕ) → walk (bare ∷ []) a ≡ Some place → walk (bare ∷ []) b ≡ Some place → a ≡ b
    apart [] [] place f g = refl
    apart (x ∷ a) b place f g = absurd (some≢none f (nowhere x a))
    apart [] (y ∷ b) place f g = absurd (some≢none g (nowhere y b))

    widths : (place : ℕ) → place < 1 → (length (node_at (bare ∷ []) place).children ≡ 10) × (length (node_at (bare ∷ []) place).marks ≡ 10)
    widths place less = let z : place ≡ 0 = omega (arith, less) in subst (λ p. (length (node_at (bare ∷ []) p).children ≡ 10) × (length (node_at (bare ∷ []) p).marks ≡ 10)) (sym z) (refl, refl)

    root : IsTree (bare ∷ [])
    root = record { root = omega arith; inside = inside; apart = apart; widths = widths }

-- which has no mark
pub root_marks : (nodes : List Node) → nodes ≡ bare ∷ [] → (text : List ℕ) → mark_of nodes text ≡ None
root_marks nodes e text = ap (λ n. mark_of n text) e ∙ back (reverse text)
  where
    no_child : (byte : ℕ) → child_at (bare ∷ []) 0 byte ≡ None
    no_child byte = cond_none (is_ascii_digit byte) _ (ap some_place (zeros (byte - 48)))

    no_mark : (byte : ℕ) → mark_at (bare ∷ []) 0 byte ≡ None
    no_mark byte = cond_none (is_ascii_digit byte) _ (ap some_mark (zeros (byte - 48)))

    nowhere : (byte : ℕ) (bytes : List ℕ) → walk (bare ∷ []) (byte ∷ bytes) ≡ None
    nowhere byte [] = no_child byte
    nowhere byte (b ∷ bytes) = walk-None (bare ∷ []) byte (b ∷ bytes) (nowhere b bytes)

    back : (bytes : List ℕ) → mark_back (bare ∷ []) bytes ≡ None
    back [] = refl
    back (byte ∷ []) = no_mark byte
    back (byte ∷ b ∷ bytes) = mark_back-None (bare ∷ []) byte (b ∷ bytes) (nowhere b bytes)

-- a node that was read at a place
pub node_is : (nodes : List Node) (place : ℕ) (n : Node) → place < length nodes → n ≡ get_or nodes place n → n ≡ node_at nodes place
node_is nodes place n inside e = e ∙ get_or_default nodes place n bare inside

-- a node was made, to which a digit leads
pub record IsMade (old new : List Node) (at byte child : ℕ) : Type 0 where
  pub grown : IsGrown old new
  pub leads : (text : List ℕ) → walk old text ≡ Some at → walk new (byte ∷ text) ≡ Some child

pub child_made : (old more : List Node) (at byte column child number : ℕ) (node : Node) → IsTree old → at < length old → is_ascii_digit byte ≡ true →
    more ≡ old ++ bare ∷ [] → node ≡ get_or more at node → column ≡ byte - 48 → child ≡ length old → number ≡ child → get_or (node_at old at).children column 0 ≡ 0 →
    IsMade old (set more at (leading node column number)) at byte child
child_made old more at byte column child number node tree inside is grew read column_is child_is number_is free =
    let less : at < length more = omega (arith, inside, ap length grew, length-append old (bare ∷ [])) in
    let node_e : node ≡ node_at (with_bare old) at = node_is more at node less read ∙ ap (λ xs. node_at xs at) grew in
    let none : child_at old at byte ≡ None = cond_none (is_ascii_digit byte) _ (ap some_place (ap (λ c. get_or (node_at old at).children c 0) (sym column_is) ∙ free)) in
    let number_e : number ≡ length old = number_is ∙ child_is in
    subst (λ (new : List Node). IsMade old new at byte child) (sym (same_new node_e number_e))
    (record {
      grown = child_grown old at byte tree inside is none;
      leads = λ text e. child_leads old at byte tree inside is none text e ∙ ap Some (sym child_is);
    })
  where
    same_new : node ≡ node_at (with_bare old) at → number ≡ length old → set more at (leading node column number) ≡ with_child old at byte
    same_new node_e number_e = rw (grew, node_e, column_is, number_e) refl

-- where a digit already leads
pub child_found : (old : List Node) (at byte column found : ℕ) (node : Node) → at < length old → is_ascii_digit byte ≡ true → node ≡ get_or old at node → column ≡ byte - 48 →
    found ≡ get_or node.children column 0 → (found ≡ 0 → ⊥) → (text : List ℕ) → walk old text ≡ Some at → walk old (byte ∷ text) ≡ Some found
child_found old at byte column found node inside is read column_is found_is some text e =
    walk-Some old byte text at e
    ∙ cond_true (is_ascii_digit byte) _ _ is
    (ap (λ c. some_place (get_or (node_at old at).children c 0)) (sym column_is)
    ∙ ap (λ n. some_place (get_or n.children column 0)) (sym (node_is old at node inside read))
    ∙ ap some_place (sym found_is) ∙ some_is found some)
  where
    some_is : (n : ℕ) → (n ≡ 0 → ⊥) → some_place n ≡ Some n
    some_is n f = cond-false _ _ _ (ne_eqb n 0 f)
