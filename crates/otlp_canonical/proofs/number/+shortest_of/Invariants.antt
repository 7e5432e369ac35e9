use Rattle.otlp_canonical.proofs.number.+shortest_of.Given as goal

abbrev pub decreases-shortest_of : goal.decreases-shortest_of
decreases-shortest_of l = l.more
