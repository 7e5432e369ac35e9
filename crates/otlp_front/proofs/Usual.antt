-- Targets and media types as they are mostly written pass their rules.
use Rattle.std.proofs.Common.{◌≡◌, Some, true, codes, refl}
use Rattle.httparse.specs.Grammar.{trim_ows}
use Rattle.http1.specs.Text.{eq_ignore_case}
use Rattle.otlp_front.specs.Target.{path_of, is_for_traces}
use Rattle.otlp_front.specs.Fields.{is_protobuf}

pub usual_type : is_protobuf (Some (codes "application/x-protobuf")) ≡ true
unfolding eq_ignore_case trim_ows
usual_type = refl

pub usual_target : is_for_traces (codes "/v1/traces") ≡ true
unfolding eq_ignore_case path_of
usual_target = refl
