use Rattle.vic_keybits.proofs.+bit_apart.Given as goal

abbrev pub decreases-bit_apart : goal.decreases-bit_apart
decreases-bit_apart l = l.left
