use Rattle.std.proofs.Common.{◌≡◌, ◌++◌, string_bytes}
use Rattle.toml.specs.View.{members_view}
use Rattle.tail_settings.specs.Keys.{keys_of}
use Rattle.settings_check.specs.Unknown.{unknown_in}
use Rattle.settings_check.specs.Warning.{warnings}
use Rattle.settings_check.proofs.unknown.warn_in.Given as goal

abbrev pub invariant-keys : goal.invariant-keys
invariant-keys l = record {
  can : goal.iterator-keys.can_next l.key-iterator;
  finite : goal.iterator-keys.is_finite l.key-iterator;
  told : string_bytes l.out ++ warnings (unknown_in l.place l.kind (members_view l.key-iterator))
      ≡ string_bytes l.fn.out ++ warnings (unknown_in l.place l.kind (keys_of l.table));
}
