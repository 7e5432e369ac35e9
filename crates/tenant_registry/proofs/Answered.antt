-- What holds of a reply, or of want of memory.
use Rattle.std.proofs.Common.{◌≡◌, Result, Ok, Err, IfOk, OnErr}
use Rattle.http_edge.specs.Message.{Response}
use Rattle.http_edge.specs.Seen.{response_of}
use Rattle.http_edge.specs.declared.message.Reply.{Reply}

pub if_ok : {E : Type 0} (r : Result Reply E) (P Q : Response → Type 0) → ((told : Response) → P told → Q told)
    → IfOk r (λ reply. P (response_of reply)) → IfOk r (λ reply. Q (response_of reply))
if_ok (Ok reply) P Q f is = f (response_of reply) is
if_ok (Err e) P Q f is = tt

-- the same where the reply is known
pub if_told : {E : Type 0} (r : Result Reply E) (due : Response) (Q : Response → Type 0)
    → IfOk r (λ reply. response_of reply ≡ due) → ((told : Response) → told ≡ due → Q told)
    → IfOk r (λ reply. Q (response_of reply))
if_told (Ok reply) due Q is f = f (response_of reply) is
if_told (Err e) due Q is f = tt

pub on_err : {T E : Type 0} (r : Result T E) (P : Type 0) → P → OnErr r P
on_err (Ok x) P is = tt
on_err (Err e) P is = is
