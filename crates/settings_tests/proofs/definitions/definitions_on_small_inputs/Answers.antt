use Rattle.std.proofs.Common.{◌≢◌, zero, suc, ◌≤◌, ◌^◌, codes, [], ◌∷◌, AllPairs, IsTrue, bytes_eq, refl, ap, true≢false, arith, lit<, lit≤}
use Rattle.std.proofs.lemmas.List.Elements.{All-nil, All-cons}
use Rattle.std.proofs.lemmas.List.Kept.{AllPairs-cons}
use Rattle.tail_settings.specs.Texts.{is_name}
use Rattle.tail_settings.specs.Policy.{leaf, always_sample}
use Rattle.tail_settings.specs.Settings.{TenantData}
use Rattle.tail_settings.specs.Valid.{IsValidPolicy, IsValidTailSampling, IsValidSection, AreSoundTenants, AreByPlace}
use Rattle.settings_tests.specs.Examples.{default_section, named}
use Rattle.settings_tests.proofs.definitions.definitions_on_small_inputs.Goals as goal

policies_are : IsValidTailSampling default_section.tail_sampling
policies_are = record {
  decision_wait = (lit≤ tt, lit≤ tt);
  num_traces = (lit≤ tt, lit≤ tt);
  sampled_cache_size = lit≤ tt;
  non_sampled_cache_size = lit≤ tt;
  some_policy = lit< tt;
  few_leaves = lit≤ tt;
  policies = All-cons IsValidPolicy (leaf always_sample) [] tt (All-nil IsValidPolicy);
}

section_is : IsValidSection default_section
section_is = record {
  endpoint = refl;
  max_spans = (lit≤ tt, lit≤ tt);
  seed = lit≤ tt;
  tail_sampling = policies_are;
  batch = record {
    send_batch_size = (lit≤ tt, lit≤ tt);
    timeout = lit≤ tt;
    send_batch_max_size = lit≤ tt;
    none_or_more = λ more. absurd (omega (arith, more));
  };
  sending_queue = record { queue_size = (lit≤ tt, lit≤ tt); queue_bytes = refl; num_consumers = (lit≤ tt, lit≤ tt) };
  retry_on_failure = record {
    initial_interval = (lit≤ tt, lit≤ tt);
    max_interval = (lit≤ tt, lit≤ tt);
    max_elapsed_time = lit≤ tt;
    multiplier = (lit≤ tt, lit≤ tt);
    randomization_factor = lit≤ tt;
  };
}

-- names that differ
abbrev Differ : TenantData → TenantData → Type 0
Differ t u = t.name ≢ u.name

no_pairs : AllPairs Differ []
no_pairs i j t earlier within = absurd (omega (arith, within))

abbrev HasName : TenantData → Type 0
HasName t = IsTrue (is_name t.name)

abbrev HasSection : TenantData → Type 0
HasSection t = IsValidSection t.section

one_is : AreSoundTenants (named 0 (codes "a") ∷ [])
one_is = record {
  names = All-cons HasName (named 0 (codes "a")) [] refl (All-nil HasName);
  distinct = AllPairs-cons Differ (named 0 (codes "a")) [] (All-nil (Differ (named 0 (codes "a")))) no_pairs;
  sections = All-cons HasSection (named 0 (codes "a")) [] section_is (All-nil HasSection);
}

first_is : AreByPlace (named 0 (codes "a") ∷ [])
first_is zero d short = refl
first_is (suc i) d short = absurd (omega (arith, short))

a-not-b : codes "a" ≢ codes "b"
a-not-b same = true≢false (ap (bytes_eq (codes "a")) same)

a_and_b : AreSoundTenants (named 0 (codes "a") ∷ named 1 (codes "b") ∷ [])
a_and_b =
    let a = named 0 (codes "a") in
    let b = named 1 (codes "b") in
    record {
      names = All-cons HasName a (b ∷ []) refl (All-cons HasName b [] refl (All-nil HasName));
      distinct = AllPairs-cons Differ a (b ∷ []) (All-cons (Differ a) b [] a-not-b (All-nil (Differ a))) (AllPairs-cons Differ b [] (All-nil (Differ b)) no_pairs);
      sections = All-cons HasSection a (b ∷ []) section_is (All-cons HasSection b [] section_is (All-nil HasSection));
    }

pub returns : goal.returns
returns c = record {
  sound = record {
    smallest_is = record {
      global = record {
        shards = (lit≤ tt, lit≤ tt);
        parts = (lit≤ tt, lit≤ tt);
        receivers = (lit≤ tt, lit≤ tt);
        senders = (lit≤ tt, lit≤ tt);
        lane_size = (lit≤ tt, lit≤ tt);
        listen = refl;
        tenant_header = refl;
      };
      some_tenant = lit< tt;
      few_tenants = lit≤ tt;
      few_spans = lit≤ tt;
      tenants = one_is;
      numbers = first_is;
      next = refl;
      queue_bytes = refl;
    };
    slow_is = lit≤ tt;
    slow_is_not = λ sound. let short : 1099511627777 ≤ 2 ^ 40 = sound in omega (arith, short);
    no_values = λ sound. let some : 1 ≤ 0 = sound.1.0 in omega (arith, some);
    batch_is = record {
      send_batch_size = (lit≤ tt, lit≤ tt);
      timeout = lit≤ tt;
      send_batch_max_size = lit≤ tt;
      none_or_more = λ more. lit≤ tt;
    };
    batch_is_not = λ sound. let below : 8192 ≤ 8191 = sound.none_or_more (lit< tt) in omega (arith, below);
    tenants_are = a_and_b;
    tenants_are_not = λ sound. sound.distinct 0 1 (named 0 (codes "a")) (lit< tt) (lit< tt) refl;
  };
}
