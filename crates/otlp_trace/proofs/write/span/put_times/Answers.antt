use Rattle.std.proofs.Common.{rules, refl, append_assoc, ◌≡◌, ◌++◌}
use Rattle.std.proofs.lemmas.Result.{on_ok_weaker}
use Rattle.otlp_trace.specs.Text.{some_signed, some_eight, span_times_text}
use Rattle.otlp_trace.specs.View.{span_view}
use Rattle.otlp_trace.proofs.write.span.put_times.Goals as goal

pub returns : goal.returns
returns c =
    let s = c.args.span.now in
    let one : c.put_some_signed.new.out.items ≡ c.args.out.now.items ++ some_signed 6 s.kind = search rules in
    let two : c.put_some_eight.new.out.items ≡ c.put_some_signed.new.out.items ++ some_eight 7 s.start_time_unix_nano = search rules in
    let all : c.put_some_eight-2.new.out.items ≡ c.put_some_eight.new.out.items ++ some_eight 8 s.end_time_unix_nano
    → c.put_some_eight-2.new.out.items ≡ c.args.out.now.items ++ span_times_text (span_view s) = λ last. rw (last, two, one) (simp append_assoc refl) in
    record { on_success = on_ok_weaker c.put_some_eight-2.result all c.put_some_eight-2.ensures.on_success }
