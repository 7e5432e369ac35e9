use Rattle.std.proofs.Common.{map}
use Rattle.std.specs.Prelude.{reverse}
use Rattle.otlp_parts.specs.Parts.{resource_parts_view}
use Rattle.otlp_prepare.proofs.Gathered.{none_found, piece_added, next_piece, piece_read}
use Rattle.otlp_prepare.proofs.Grouped.{none_grouped}
use Rattle.otlp_prepare.proofs.body_spans.found_in.Goals as goal

pub pieces-init : goal.pieces-init
pieces-init c = record {
  adding = none_found _ _ _ _ _ (cc) (cc) c.reverse.ensures.items c.requires;
  grouped = none_grouped _ (cc);
}

pub add_resources-requires-clause-found : goal.add_resources-requires-clause-found
add_resources-requires-clause-found c = c.pieces.invariant.adding.found

pub add_resources-requires-clause-read : goal.add_resources-requires-clause-read
add_resources-requires-clause-read c =
    piece_read c.pieces.left.items c.in_ok-now.now.items c.first_of.new.left.items c.in_ok-now.ensures.front c.pieces.invariant.adding.read

pub pieces-preserved : goal.pieces-preserved
pieces-preserved c =
    let before = c.pieces.left.items in
    let now = c.in_ok-now.now.items in
    let left = c.first_of.new.left.items in
    record {
      adding = piece_added _ _ (map resource_parts_view (reverse before)) (map resource_parts_view now) (map resource_parts_view (reverse left)) _ _ _ _ _ _
          (next_piece before now left c.in_ok-now.ensures.front) c.pieces.invariant.adding c.in_ok-add_resources.ensures.adds;
      grouped = c.in_ok-add_resources.ensures.grouped c.pieces.invariant.grouped;
    }
