use Rattle.std.proofs.Common.{◌≡◌, map, take}
use Rattle.httparse.specs.Spans.{header_bytes}
use Rattle.service_runtime.specs.Token.{is_from_page}
use Rattle.service_runtime.proofs.token.is_from_page.Given as goal

abbrev pub invariant-loop-span : goal.invariant-loop-span
invariant-loop-span l = l.is ≡ is_from_page (map (header_bytes l.text) (take l.span-index l.spans))
