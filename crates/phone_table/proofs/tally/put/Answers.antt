use Rattle.std.proofs.Common.{◌≡◌, subst, string_bytes}
use Rattle.std.proofs.lemmas.Map.Text.{btree_map_updates_text}
use Rattle.std.proofs.lemmas.Result.{IfOk-at_ok}
use Rattle.phone_table.specs.Tallies.{IsPut}
use Rattle.phone_table.proofs.tally.put.Goals as goal

-- the key has the text's bytes, so `insert` gives the text its count
pub returns : goal.returns
returns c =
    let is_text = IfOk-at_ok (λ s. string_bytes s ≡ c.args.text.now) c.in_ok-key.was c.from_str.ensures.ok in
    let is_put : IsPut c.args.tally.now (string_bytes c.in_ok-key.key) c.args.count c.insert.new.self =
    btree_map_updates_text (string_bytes c.in_ok-key.key) c.args.tally.now c.insert.new.self _ c.in_ok-insert.ensures.updates in
    subst (λ text. IsPut c.args.tally.now text c.args.count c.insert.new.self) is_text is_put
