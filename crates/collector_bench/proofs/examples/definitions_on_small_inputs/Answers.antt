use Rattle.std.proofs.Common.{◌≡◌, ◌<◌, ◌≤◌, ℕ, List, [], ◌∷◌, inl, inr, codes, bytes_eq, false, refl, sym, ap, ◌∙◌, true≢false, arith, lit<, lit≤}
use Rattle.otlp_read.specs.Walk.{no_pieces}
use Rattle.collector_bench.specs.Task.{TaskData, Asks, nothing_named, codec_named, prepare_named, edge_named, IsCount, most_rounds}
use Rattle.collector_bench.specs.Examples.{path}
use Rattle.collector_bench.proofs.Words.{of_three, of_four}
use Rattle.collector_bench.proofs.examples.definitions_on_small_inputs.Goals as goal

pub returns-clause-counts : goal.returns-clause-counts
returns-clause-counts c = record { none = refl; empty = refl; ten = refl; greatest = refl; too_great = refl; small = refl }

pub returns-clause-written : goal.returns-clause-written
returns-clause-written c = record {
  nothing = record { value = record { pieces = []; are = no_pieces; made = refl }; text = refl };
  other = λ written. true≢false (ap (bytes_eq []) written.text);
}

pub returns-clause-copies : goal.returns-clause-copies
returns-clause-copies c = record { thrice = refl; never = refl }

-- ---- arguments

-- 20, as rounds
twenty : IsCount most_rounds (codes "20")
twenty = record { digits = (lit< tt, (lit< tt, (lit< tt, tt))); fits = lit≤ tt; some = lit< tt }

pub returns-clause-arguments : goal.returns-clause-arguments
returns-clause-arguments c = record {
  none = nothing_named;
  rounds = codec_named {rounds = codes "20"} twenty;
  plus = codec_named {rounds = codes "+7"} (record { digits = (lit< tt, (lit< tt, tt)); fits = lit≤ tt; some = lit< tt });
  zeros = codec_named {rounds = codes "007"} (record { digits = (lit< tt, (lit< tt, (lit< tt, (lit< tt, tt)))); fits = lit≤ tt; some = lit< tt });
  most = codec_named {rounds = codes "4294967295"} (record {
    digits = (lit< tt, (lit< tt, (lit< tt, (lit< tt, (lit< tt, (lit< tt, (lit< tt, (lit< tt, (lit< tt, (lit< tt, (lit< tt, tt)))))))))));
    fits = lit≤ tt;
    some = lit< tt;
  });
  served = edge_named {rounds = codes "20"} twenty;
  one_policy = prepare_named {rounds = codes "20"} {policies = codes "1"} twenty (record { digits = (lit< tt, (lit< tt, tt)); fits = lit≤ tt; some = lit< tt });
  most_policies = prepare_named {rounds = codes "20"} {policies = codes "64"} twenty (record { digits = (lit< tt, (lit< tt, (lit< tt, tt))); fits = lit≤ tt; some = lit< tt });
}

one_word : {word : List ℕ} {task : TaskData} → Asks (word ∷ []) task → ⊥
one_word asked = elim asked [ ]

two_words : {a b : List ℕ} {task : TaskData} → Asks (a ∷ b ∷ []) task → ⊥
two_words asked = elim asked [ ]

five_words : {a b c d e : List ℕ} {task : TaskData} → Asks (a ∷ b ∷ c ∷ d ∷ e ∷ []) task → ⊥
five_words asked = elim asked [ ]

misnamed : (name word : List ℕ) {task : TaskData} → Asks (name ∷ path ∷ word ∷ []) task → bytes_eq name (codes "codec") ≡ false
    → bytes_eq name (codes "edge") ≡ false → ⊥
misnamed name word asked codec edge =
    elim ((of_three asked name path word refl).1) [
      | inl e ↦ true≢false (ap (λ n. bytes_eq n (codes "codec")) (sym e) ∙ codec)
      | inr e ↦ true≢false (ap (λ n. bytes_eq n (codes "edge")) (sym e) ∙ edge)
    ]

miscounted : (word : List ℕ) {task : TaskData} → Asks (codes "codec" ∷ path ∷ word ∷ []) task → IsCount most_rounds word
miscounted word asked = (of_three asked (codes "codec") path word refl).0

pub returns-clause-refused : goal.returns-clause-refused
returns-clause-refused c = record {
  too_many = λ task asked. let fits : 4294967296 ≤ 4294967295 = (miscounted (codes "4294967296") asked).fits in omega (arith, fits);
  no_rounds = λ task asked. let some : 0 < 0 = (miscounted (codes "0") asked).some in omega (arith, some);
  minus = λ task asked. let digit : 36 < 10 = (miscounted (codes "-7") asked).digits.1.0 in omega (arith, digit);
  no_number = λ task asked. let some : 0 < 0 = (miscounted [] asked).digits.0 in omega (arith, some);
  too_many_policies = λ task asked.
      let fits : 65 ≤ 64 = (of_four asked (codes "prepare") path (codes "20") (codes "65") refl).2.fits in omega (arith, fits);
  no_policies = λ task asked.
      let some : 0 < 0 = (of_four asked (codes "prepare") path (codes "20") (codes "0") refl).2.some in omega (arith, some);
  none_made_ready = λ task asked.
      let some : 0 < 0 = (of_four asked (codes "prepare") path (codes "0") (codes "1") refl).1.some in omega (arith, some);
  name_alone = λ task asked. one_word asked;
  no_name = λ task asked. two_words asked;
  other_name = λ task asked. misnamed (codes "codecs") (codes "7") asked refl refl;
  policies = λ task asked. true≢false (ap (bytes_eq (codes "codec")) (of_four asked (codes "codec") path (codes "7") (codes "8") refl).0);
  policies_left_out = λ task asked. misnamed (codes "prepare") (codes "7") asked refl refl;
  five = λ task asked. five_words asked;
}

pub returns-clause-faults : goal.returns-clause-faults
returns-clause-faults c = record { statuses = refl; of_memory = refl; of_the_body = refl; of_others = refl }
