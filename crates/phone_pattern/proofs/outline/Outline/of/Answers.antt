use Rattle.std.proofs.Common.{◌-◌, ℕ, ap, sym, subst, option_map, string_bytes, map}
use Rattle.std.proofs.lemmas.List.{length-map}
use Rattle.phone_pattern.specs.First.{verbose}
use Rattle.phone_pattern.proofs.Serving.{shape_served}
use Rattle.regex_syntax.specs.Verdict.{Reads}
use Rattle.phone_pattern.proofs.outline.Outline.of.Goals as goal

pub invariant_of-result : goal.invariant_of-result
invariant_of-result c =
    let parsed = c.in-Ok.parsed in
    let counted = ap (λ (n : ℕ). n - 1) (sym (length-map parsed.names.items (option_map string_bytes))) in
    let reads = subst (λ text. Reads verbose text parsed.hir (map (option_map string_bytes) parsed.names.items)) c.as_str.ensures c.in-Ok.ensures in
    shape_served c.args.text parsed.hir _ (record { fronts = c.of.result; lengths = c.of-2.result; searcher = c.new.result })
    reads c.of.ensures c.of-2.ensures c.new.ensures.finds (rw counted at c.new.ensures.last)
