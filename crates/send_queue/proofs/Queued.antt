-- The bytes of batches that wait.
use Rattle.std.proofs.Common.{◌≡◌, ◌+◌, ◌++◌, ◌∙◌, List, [], ◌∷◌, map, ap, arith}
use Rattle.send_queue.specs.declared.batch.Batch.{Batch}
use Rattle.send_queue.specs.Sender.{BatchData, payload_bytes}
use Rattle.send_queue.specs.View.{batch_view}

pub payload_bytes-append : (bs cs : List BatchData) → payload_bytes (bs ++ cs) ≡ payload_bytes bs + payload_bytes cs
payload_bytes-append [] cs = omega arith
payload_bytes-append (b ∷ bs) cs = omega (arith, payload_bytes-append bs cs)

shown_bytes-append : (xs ys : List Batch) → payload_bytes (map batch_view (xs ++ ys)) ≡ payload_bytes (map batch_view xs) + payload_bytes (map batch_view ys)
shown_bytes-append [] ys = omega arith
shown_bytes-append (x ∷ xs) ys = omega (arith, shown_bytes-append xs ys)

-- with others behind them
pub bytes_behind : (xs ys zs : List Batch) → xs ≡ ys ++ zs → payload_bytes (map batch_view xs) ≡ payload_bytes (map batch_view ys) + payload_bytes (map batch_view zs)
bytes_behind xs ys zs is = ap (λ (l : List Batch). payload_bytes (map batch_view l)) is ∙ shown_bytes-append ys zs
