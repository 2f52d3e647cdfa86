use Rattle.std.proofs.Common.{◌≡◌, ℕ, nat_lt, List, [], ◌∷◌, true, IsAscii, refl, ltb-true}
use Rattle.std.proofs.lemmas.Bool.{and_parts}
use Rattle.std.proofs.lemmas.Str.{IsCharBoundary-from_ascii}
use Rattle.std.proofs.lemmas.Str.Ascii.{IsAscii-cons, IsAscii-nil}
use Rattle.std.specs.List.{list_all}
use Rattle.phone_keyed_parts.specs.Templates as template_rules
use Rattle.phone_keyed_parts.proofs.templates.nines.Goals as goal

ascii : (bs : List ℕ) → list_all (λ b. nat_lt b 128) bs ≡ true → IsAscii bs
ascii [] e = IsAscii-nil
ascii (b ∷ bs) e = let parts = and_parts (nat_lt b 128) (list_all (λ b. nat_lt b 128) bs) e in IsAscii-cons b bs (ltb-true b 128 parts.0) (ascii bs parts.1)

pub front-requires : goal.front-requires
front-requires c = IsCharBoundary-from_ascii template_rules.nines c.args.n (ascii template_rules.nines refl) c.requires
