use Rattle.otlp_canonical.proofs.attribute.varint_size.Given as goal

abbrev pub decreases-digits : goal.decreases-digits
decreases-digits l = l.left
