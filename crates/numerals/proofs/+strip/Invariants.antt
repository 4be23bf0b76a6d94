use Rattle.numerals.proofs.+strip.Given as goal

abbrev pub decreases-strip : goal.decreases-strip
decreases-strip l = l.k
