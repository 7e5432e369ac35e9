use Rattle.std.proofs.Common.{inl, inr}
use Rattle.service_runtime.proofs.receiving.serve_in_time.Goals as goal

pub returns-then-is_closing : goal.returns-then-is_closing
returns-then-is_closing g c = inl c.if-is_closing.ensures

pub returns : goal.returns
returns g c = inr (c.is_closing.new.self, c.if-is_closing.ensures, c.serve.ensures)
