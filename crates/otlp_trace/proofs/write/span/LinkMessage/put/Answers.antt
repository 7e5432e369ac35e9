use Rattle.std.proofs.Common.{rules, refl, append_assoc, ◌≡◌, ◌++◌, map}
use Rattle.std.specs.Prelude.{string_bytes}
use Rattle.std.proofs.lemmas.Result.{on_ok_weaker}
use Rattle.otlp_trace.specs.Text.{some_bytes, some_number, some_four, repeated, key_value_text, link_text}
use Rattle.otlp_trace.specs.View.{key_value_view, link_view}
use Rattle.otlp_trace.proofs.write.span.LinkMessage.put.Goals as goal

pub returns : goal.returns
returns c =
    let s = c.args.self.now in
    let one : c.put_some_bytes.new.out.items ≡ c.args.out.now.items ++ some_bytes 1 s.trace_id = search rules in
    let two : c.put_some_bytes-2.new.out.items ≡ c.put_some_bytes.new.out.items ++ some_bytes 2 s.span_id = search rules in
    let three : c.put_some_bytes-3.new.out.items ≡ c.put_some_bytes-2.new.out.items ++ some_bytes 3 (string_bytes s.trace_state) = search rules in
    let four : c.put_each.new.out.items ≡ c.put_some_bytes-3.new.out.items ++ repeated 4 key_value_text (map key_value_view s.attributes) = search rules in
    let five : c.put_some_number.new.out.items ≡ c.put_each.new.out.items ++ some_number 5 s.dropped_attributes_count = search rules in
    let six : c.put_some_four.new.out.items ≡ c.put_some_number.new.out.items ++ some_four 6 s.flags = search rules in
    let all : c.extend_from_slice.new.self.items ≡ c.put_some_four.new.out.items ++ s.unknown
    → c.extend_from_slice.new.self.items ≡ c.args.out.now.items ++ link_text (link_view s) = λ last. rw (last, six, five, four, three, two, one) (simp append_assoc refl) in
    record { on_success = on_ok_weaker c.extend_from_slice.result all (search rules) }
