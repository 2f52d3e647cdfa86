-- The parts of a call: options with their values, and operands, which are a region and files.
use Rattle.std.specs.Prelude.{ℕ, ◌==◌, ◌||◌, ◌++◌, Bool, false, List, [], ◌∷◌, map}
use Rattle.std.specs.Prelude.{Option, Some, None, Result, Ok, Err, if◌then◌else◌}
use Rattle.phone_words.specs.Rows.{Entry, entry, is_empty, is_mark, joined, named, takes}
use Rattle.phone_words.specs.declared.parts.Before.{Before as ToldBefore}
use Rattle.phone_words.specs.declared.parts.Before.TheVariants as told_before
use Rattle.phone_words.specs.declared.parts.Kind.{Kind as ToldKind}
use Rattle.phone_words.specs.declared.parts.Kind.TheVariants as told_kind
use Rattle.phone_words.specs.declared.parts.Part.{Part}
use Rattle.phone_words.specs.declared.parts.Part.TheVariants as part
use Rattle.phone_words.specs.declared.parts.Why.{Why}
use Rattle.phone_words.specs.declared.parts.Why.TheVariants as why
use Rattle.phone_words.specs.declared.parts.WordError.{WordError}

-- a part of a call: an option with its value, which is empty where it takes none, or an operand
pub data Said : Type 0 where
  option : Entry → List ℕ → Said
  operand : List ℕ → Said

-- what a part says
abbrev pub said : Part → Said
said (part.Given row value) = option (entry row) value.now
said (part.Operand word) = operand word.now

-- what parts say, in their order
abbrev pub all_said : List Part → List Said
all_said ps = map said ps

-- why words are no call, by which word, and by which other name
pub record Fault : Type 0 where
  pub why : Why
  pub word : List ℕ
  pub other : List ℕ

-- what an error says
abbrev pub fault : WordError → Fault
fault e = record { why = e.why; word = e.word.now; other = e.other.now }

-- a fault of one word
abbrev pub fault_at : Why → List ℕ → Fault
fault_at why word = record { why = why; word = word; other = [] }

-- what f makes of a value, or the fault in its place
abbrev pub and_then : {A B : Type 0} → Result A Fault → (A → Result B Fault) → Result B Fault
and_then (Ok x) f = f x
and_then (Err e) f = Err e

-- what is told of a value, or of an error
abbrev pub told : {A : Type 0} → Result A WordError → Result A Fault
told (Ok x) = Ok x
told (Err e) = Err (fault e)

-- a word is to be an option: it begins with a hyphen, and has more
abbrev pub is_dashed : List ℕ → Bool
is_dashed [] = false
is_dashed (c ∷ []) = false
is_dashed (c ∷ d ∷ cs) = c == 45

-- what a word is: a part; an option whose value is the next word; the mark; or refused
pub data Kind : Type 0 where
  whole : Said → Kind
  wants : Entry → Kind
  mark : Kind
  refused : Fault → Kind

-- what a word is told to be
abbrev pub kind_said : ToldKind → Kind
kind_said (told_kind.Whole p) = whole (said p)
kind_said (told_kind.Wants row) = wants (entry row)
kind_said told_kind.Mark = mark
kind_said (told_kind.Refused e) = refused (fault e)

-- an option that is named by the whole word
abbrev pub kind_named : Entry → Kind
kind_named r = if takes r then wants r else whole (option r [])

-- an option with its value in one word
abbrev pub kind_joined : List ℕ → Entry × List ℕ → Kind
kind_joined word (r, v) =
    if is_empty v then refused (fault_at why.NoValue word) else whole (option r v)

-- a word that has no option's name
abbrev pub kind_other : List ℕ → Kind
kind_other word =
    if is_mark word then mark else
    if is_dashed word then refused (fault_at why.Unknown word) else whole (operand word)

-- what f makes of a value, or else another value
abbrev pub either : {A B : Type 0} → (A → B) → Option A → B → B
either f (Some x) y = f x
either f None y = y

-- what a word is by itself, among all words
abbrev pub kind : List (List ℕ) → List ℕ → Kind
kind words word = either kind_named (named words word)
    (either (kind_joined word) (joined words word) (kind_other word))

-- what came before a word: nothing that matters; an option that wants it as its value, with the
-- word that named it; or the mark
pub data Before : Type 0 where
  free : Before
  wanting : Entry → List ℕ → Before
  marked : Before

-- what came before, as it is told
abbrev pub before_said : ToldBefore → Before
before_said told_before.Free = free
before_said (told_before.Wanting row word) = wanting (entry row) word.now
before_said told_before.Marked = marked

-- what a word is after what came before it: a value isn't empty, and isn't the mark
abbrev pub kind_after : List (List ℕ) → Before → List ℕ → Kind
kind_after words free word = kind words word
kind_after words (wanting r name) word =
    if is_empty word || is_mark word then refused (fault_at why.NoValue name)
    else whole (option r word)
kind_after words marked word = whole (operand word)

-- what came before the next word
abbrev pub before_next : Before → List ℕ → Kind → Before
before_next marked word k = marked
before_next b word (wants r) = wanting r word
before_next b word mark = marked
before_next b word k = free

-- parts, with what a word is
abbrev pub with_kind : List Said → Kind → Result (List Said) Fault
with_kind ps (whole p) = Ok (ps ++ p ∷ [])
with_kind ps (wants r) = Ok ps
with_kind ps mark = Ok ps
with_kind ps (refused f) = Err f

-- these parts, and those that the words are that are left
abbrev pub parts_from : List (List ℕ) → List (List ℕ) → List Said → Before →
    Result (List Said) Fault
parts_from words [] ps (wanting r name) = Err (fault_at why.NoValue name)
parts_from words [] ps b = Ok ps
parts_from words (w ∷ ws) ps b = and_then (with_kind ps (kind_after words b w))
    (λ qs. parts_from words ws qs (before_next b w (kind_after words b w)))

-- the parts that words are, one after the other
abbrev pub parts_in : List (List ℕ) → Result (List Said) Fault
parts_in words = parts_from words words [] free
