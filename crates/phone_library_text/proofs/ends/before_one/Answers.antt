use Rattle.std.proofs.Common.{[], length, append-nil, refl, ap, sym, ◌∙◌, arith}
use Rattle.std.proofs.lemmas.Str.{chars-nil}
use Rattle.std.specs.Str.{chars}
use Rattle.phone_parts.proofs.Longest.{stops_at_other}
use Rattle.phone_library_text.proofs.ends.before_one.Goals as goal

pub returns-in_default-clause-read : goal.returns-in_default-clause-read
returns-in_default-clause-read g c = record {
  end = [];
  whole = sym (append-nil (chars c.args.text.now));
  kind = record { only = refl; few = omega arith };
  longest = λ before other e k. omega (arith, ap length (ap chars c.in_default.ensures.cut ∙ chars-nil));
}

pub returns-else-has-clause-read : goal.returns-else-has-clause-read
returns-else-has-clause-read g c = record {
  end = [];
  whole = sym (append-nil (chars c.args.text.now));
  kind = record { only = refl; few = omega arith };
  longest = λ before other e k.
      stops_at_other (g.S.CharSet.members c.args.set.now) (chars c.args.text.now) [] (chars c.in-Some.front.now) c.in-Some.c c.in-Some.ensures.read
      (sym c.has.ensures ∙ c.if-has.false) before other (append-nil (chars c.args.text.now) ∙ e) k.only;
}
