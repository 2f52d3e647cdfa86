use Rattle.std.proofs.Common.{map, rules, subst}
use Rattle.std.specs.List.{Contains, IsDistinct}
use Rattle.std.specs.Str.{bytes_eq}
use Rattle.phone_territory.specs.Records.{id_of}
use Rattle.phone_plans.proofs.Lasts.{distinct-lasts, lasts-last, last-lasts}
use Rattle.phone_meta.proofs.database.Database.iter.Goals as goal

pub returns-clause-last_of_its_id : goal.returns-clause-last_of_its_id
returns-clause-last_of_its_id c = λ m h. lasts-last c.args.self.now m (subst (λ ms. Contains ms m) (search rules) h)

pub returns-clause-each_id : goal.returns-clause-each_id
returns-clause-each_id c = λ id m e. subst (λ ms. Contains ms m) (search rules) (last-lasts id c.args.self.now m e)

pub returns-clause-each_once : goal.returns-clause-each_once
returns-clause-each_once c = subst (λ ms. IsDistinct bytes_eq (map id_of ms)) (search rules) (distinct-lasts c.args.self.now)
