use Rattle.std.proofs.Common.{◌≡◌, ℕ, Bool, false, List, [], ◌∷◌, length, refl, sym, arith}
use Rattle.std.specs.Fmt.{digits}
use Rattle.http_edge.specs.Seen.{response_of}
use Rattle.http_edge.specs.Reply.{head_text_of, plain_text}
use Rattle.http_edge.specs.declared.message.Reply.{Reply}
use Rattle.http_edge.specs.declared.message.MediaType.TheVariants.{Protobuf}
use Rattle.http_edge.proofs.reply.taken_bytes.Goals as goal

-- what has no byte is empty
no_byte : (bytes : List ℕ) → length bytes ≡ 0 → bytes ≡ []
no_byte [] e = refl
no_byte (b ∷ bytes) e = absurd (omega (arith, e))

-- the text by what the reply is and what is asked
taken : (r : Reply) {close bodiless : Bool} → r.status ≡ 200 → r.media ≡ Protobuf → length r.body.items ≡ 0
    → close ≡ false → bodiless ≡ false
    → plain_text false false (record { status = 200; media = Protobuf; allow = r.allow; body = [] })
    ≡ plain_text bodiless close (response_of r)
taken r status media none close bodiless = λ i.
    plain_text (sym bodiless i) (sym close i) (record {
      status = sym status i;
      media = sym media i;
      allow = r.allow;
      body = sym (no_byte r.body.items none) i;
    })

pub returns-in-200-Protobuf-eq0-false-false : goal.returns-in-200-Protobuf-eq0-false-false
unfolding head_text_of digits
returns-in-200-Protobuf-eq0-false-false c =
    let reply = c.args.reply.now in
    let is = c.in-200-Protobuf-eq0-false-false in
    let none : length reply.body.items ≡ 0 = omega (arith, c.len.ensures, reply.body.ok.0, is.is-2) in
    taken reply is.is-0 is.is-1 none is.is-3 is.is-4
