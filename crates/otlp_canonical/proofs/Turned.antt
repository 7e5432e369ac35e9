-- An event's name before its time.
use Rattle.std.proofs.Common.{◌≡◌, ℕ, List, ◌++◌, Some, Result, Ok, Err, refl, sym, ap, subst, ◌∙◌, arith}
use Rattle.pb_wire.specs.Grammar.{Entry, Eight, Bytes, IsField}
use Rattle.pb_wire.specs.Reading.{next_at}
use Rattle.pb_wire.proofs.Again.{next_takes}
use Rattle.otlp_trace.specs.Data.{EventData}
use Rattle.otlp_trace.specs.Defaults.{no_event}
use Rattle.otlp_read.specs.declared.fault.ReadFault.{ReadFault}
use Rattle.otlp_read.specs.Numbers.{utf8, fixed64}
use Rattle.otlp_read.specs.Value.{event_step}
use Rattle.otlp_read.specs.Walk.{◌>>=◌, before, numbered}
use Rattle.otlp_read.proofs.Walks.{before_rest}
use Rattle.otlp_canonical.specs.Inner.{TurnedFields}

named : (e : EventData) (time : ℕ) (read : Result (List ℕ) ReadFault)
    → ((read >>= λ text. Ok (record e { name = text })) >>= λ a. Ok (record a { time_unix_nano = time }))
    ≡ (read >>= λ text. Ok (record e { time_unix_nano = time; name = text }))
named e time (Ok text) = refl
named e time (Err f) = refl

pub turned_event : (d : ℕ) (text behind rest bytes time : List ℕ) (one other : Entry) → next_at d text ≡ Ok (Some (one, behind)) → next_at d behind ≡ Ok (Some (other, rest))
    → one ≡ numbered 2 (Bytes bytes) → other ≡ numbered 1 (Eight time) → TurnedFields event_step no_event d text (before text behind) (before behind rest) rest
turned_event d text behind rest bytes time one other found more is is_other =
    let b = next_takes d text one behind found in
    let v = next_takes d behind other rest more in
    let run : before text behind ≡ b.front = ap (λ (t : List ℕ). before t behind) b.parts ∙ before_rest b.front behind in
    let second : before behind rest ≡ v.front = ap (λ (t : List ℕ). before t rest) v.parts ∙ before_rest v.front rest in
    record {
      one = numbered 2 (Bytes bytes);
      other = numbered 1 (Eight time);
      parts = b.parts ∙ ap (λ (t : List ℕ). b.front ++ t) v.parts ∙ ap (λ (t : List ℕ). t ++ (v.front ++ rest)) (sym run) ∙ ap (λ (t : List ℕ). before text behind ++ (t ++ rest)) (sym second);
      begins = subst (λ (e : Entry). IsField d (before text behind) e) is (subst (λ (t : List ℕ). IsField d t one) (sym run) b.first);
      follows = subst (λ (e : Entry). IsField d (before behind rest) e) is_other (subst (λ (t : List ℕ). IsField d t other) (sym second) v.first);
      one_low = omega arith;
      other_low = omega arith;
      same = λ room. named no_event (fixed64 time) (utf8 bytes);
    }
