use Rattle.std.proofs.Common.{◌≡◌, ◌∙◌, ◌+◌, ◌++◌, ℕ, List, [], ◌∷◌, get_or, take, length, refl, ap, subst, sym, arith}
use Rattle.std.proofs.Math.Seq.{take-length}
use Rattle.std.proofs.lemmas.List.{take_more}
use Rattle.tail_settings.specs.Settings.{settings_view}
use Rattle.tenant_shard.specs.Lives.{ShardStands}
use Rattle.tenant_shard.specs.Members.{all_views}
use Rattle.tenant_shard.specs.Table.{opened}
use Rattle.tenant_shard.proofs.Gones.{counted_all, within_all}
use Rattle.tenant_shard.proofs.shard.Shard.open_with_keys.Goals as goal

pub loop-tenant-init : goal.loop-tenant-init
loop-tenant-init c = record {
  whole = rw (c.new-opened.ensures.items, c.new-agenda.ensures, c.new-gone.ensures.items) (record {
    whole = record {
      order = tt;
      held = tt;
      swept = tt;
      strangers = λ t none. c.new-stores.ensures t;
      listed = λ t. refl;
      ready = λ t. refl;
    };
    gone_are = record {
      rise = λ i j d le within. absurd (omega (arith, within));
      apart = λ t is. refl;
      has_room = omega arith;
    };
  });
  nobody_left = c.new-gone.ensures.items;
  stands = λ t. rw c.new-opened.ensures.items (tt, refl);
}

pub returns-clause-stands : goal.returns-clause-stands
returns-clause-stands c =
    let numbers = c.args.members.now in
    let most = c.loop-tenant.auto.tenant-index-end in
    let done = c.loop-tenant-test.false in
    let end : c.loop-tenant.tenant-index ≡ length numbers = omega (arith, most, done) in
    let all : take c.loop-tenant.tenant-index numbers ≡ numbers = ap (λ (n : ℕ). take n numbers) end ∙ take-length numbers in
    let stands = subst (λ (ns : List ℕ). ShardStands (opened (settings_view c.args.settings.now) ns) (all_views c.new-stores.result c.loop-tenant.opened.items [])) all c.loop-tenant.invariant.stands in
    subst (λ (gs : List ℕ). ShardStands (opened (settings_view c.args.settings.now) numbers) (all_views c.new-stores.result c.loop-tenant.opened.items gs)) (sym c.loop-tenant.invariant.nobody_left) stands

pub returns-clause-counted : goal.returns-clause-counted
returns-clause-counted c = counted_all c.new-stores.result c.loop-tenant.agenda c.loop-tenant.opened.items c.loop-tenant.gone.items c.loop-tenant.invariant.whole.whole

pub returns-clause-within : goal.returns-clause-within
returns-clause-within c = within_all c.new-stores.result c.loop-tenant.agenda c.loop-tenant.opened.items c.loop-tenant.gone.items c.loop-tenant.invariant.whole.whole

pub loop-tenant-preserved : goal.loop-tenant-preserved
loop-tenant-preserved c =
    let numbers = c.args.members.now in
    let i = c.loop-tenant.tenant-index in
    let earlier = take i numbers in
    let before : ShardStands (opened (settings_view c.args.settings.now) earlier) (all_views c.new-stores.result c.loop-tenant.opened.items []) = c.loop-tenant.invariant.stands in
    let after = c.in_ok-open_member.ensures.stands earlier before in
    let more : take (i + 1) numbers ≡ earlier ++ get_or numbers i 0 ∷ [] = take_more numbers i 0 c.loop-tenant-test.true in
    record {
      whole = c.in_ok-open_member.ensures.whole;
      nobody_left = c.in_ok-open_member.ensures.nobody_left;
      stands = subst (λ (ns : List ℕ). ShardStands (opened (settings_view c.args.settings.now) ns) (all_views c.new-stores.result c.open_member.new.members.items [])) (sym more) after;
    }
