use Rattle.std.proofs.Common.{rules, arith, ◌<◌, ◌^◌, length}
use Rattle.otlp_canonical.specs.Status.{StatusesHeld}
use Rattle.otlp_canonical.proofs.Statuses.{held_put}
use Rattle.otlp_canonical.proofs.status.put_status.Goals as goal

pub returns : goal.returns
returns c whole =
    let h : StatusesHeld c.args.depth c.args.text.now c.args.copy.now.items c.put_merged.new.copy.items = search rules in
    let fits : length c.put_merged.new.copy.items < 2 ^ 64 = omega arith in
    held_put c.args.depth c.len-start.result c.args.text.now c.args.copy.now.items c.put_merged.new.copy.items c.wrap_in_field.new.out.items (search rules) fits (search rules) h
