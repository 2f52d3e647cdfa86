use Rattle.phone_index.proofs.trie.+place_of.Given as goal

abbrev pub decreases-place_of : goal.decreases-place_of
decreases-place_of l = l.number
