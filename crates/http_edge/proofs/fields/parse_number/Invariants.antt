use Rattle.std.proofs.Common.{◌≡◌, ◌^◌, ◌<◌, true, take}
use Rattle.std.specs.List.{list_all}
use Rattle.std.specs.Char.{is_ascii_digit}
use Rattle.std.specs.Str.Parse.{digits_value}
use Rattle.http_edge.proofs.fields.parse_number.Given as goal

abbrev pub invariant-loop-b : goal.invariant-loop-b
invariant-loop-b l =
    (l.n ≡ digits_value 10 (take l.b-index l.digits)) × (list_all is_ascii_digit (take l.b-index l.digits) ≡ true)
    × (l.n < 2 ^ 64)
