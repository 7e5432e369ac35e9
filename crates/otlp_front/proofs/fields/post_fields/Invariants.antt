use Rattle.std.proofs.Common.{◌≡◌, map, take, codes}
use Rattle.std.specs.List.{list_all}
use Rattle.httparse.specs.Spans.{header_bytes}
use Rattle.http_edge.specs.Fields.{field}
use Rattle.http_edge.specs.Stages.{single_of}
use Rattle.otlp_front.specs.Fields.{is_plain}
use Rattle.otlp_front.proofs.fields.post_fields.Given as goal

abbrev pub invariant-loop-span : goal.invariant-loop-span
invariant-loop-span l =
    let passed = map (header_bytes l.text) (take l.span-index l.spans) in
    record {
      tenant : single_of l.tenant ≡ field l.tenant_header passed;
      content_type : single_of l.content_type ≡ field (codes "content-type") passed;
      plain : l.plain ≡ list_all is_plain passed;
    }
