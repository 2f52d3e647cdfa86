use Rattle.phone_prefixes.proofs.prefixes.Prefixes.of.Goals as goal

pub take_ended-requires-clause-loaded : goal.take_ended-requires-clause-loaded
take_ended-requires-clause-loaded c = c.in_ok-loading.ensures.loaded c.as_slice.result.now
